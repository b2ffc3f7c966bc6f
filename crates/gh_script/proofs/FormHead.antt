-- A line of a script where no goroutine is open: one of the head, or one that begins a goroutine.
use Rattle.std.proofs.Common.{◌≡◌, ℕ, suc, ◌+◌, ◌<◌, ◌≤◌, Bool, true, false, cond, ltb, leb, ◌||◌, List, [], ◌∷◌, ◌++◌, length, map, Option, Some, None, refl, sym, ap, ◌∙◌, subst, append_assoc, arith, inl, inr, get_or, All, is_some, is_none, ◌≢◌, AllPairs, leb-false, lt-ltb, append-nil}
use Rattle.gh_script.proofs.Vocabulary.{All-nil, All-push, all_pairs_push, AreApart, blank_draft, bytes_eq, bytes_eq-Decides, cases_lt, cause_at, continued, Draft, fails_before_first, fields_of, flat_map, Given, given_at, given_by_key, Goroutine, goroutine_by, goroutines_begun, is_type_key, IsHead, IsHeadKey, IsRoutine, IsTaken, just_begun, Key, key_of, length_push, map_push, names_by, Nothing, nothing_given, number_in, Open, option_to_list, position_or_len, Routine, routine_lines, Sentence, Setting, settings_by, shape_with, type_of, types_in, with_given}
use Rattle.gh_script.proofs.Allowed.{allowed, left_false, type_few}
use Rattle.gh_script.proofs.FormSaid.{alone_go, alone_set, alone_type, Between, fold_push, IsSeen, Running, some_key, Story, taken_by, Told, types_push, types_push_other}

-- ---- a line in the head

no_place : (n m : ℕ) → is_some (cond (ltb n m) (Some n) None) ≡ false → m ≤ n
no_place n m h = elim (cases_lt n m) [
  | inl lt ↦ absurd (let q = rw (lt-ltb n m lt) at h in cc)
  | inr le ↦ le
]

-- a name that no type has differs from each type's
name_fresh : (names : List (List ℕ)) (word : List ℕ) (k : ℕ) (d : List ℕ) → k < length names → is_some (type_of names word) ≡ false → get_or names k d ≢ word
unfolding type_of
name_fresh names word k d lt h same =
    let past : length names ≤ position_or_len (λ name. bytes_eq name word) names = no_place (position_or_len (λ name. bytes_eq name word) names) (length names) h in
    let differs : bytes_eq (get_or names k d) word ≡ false = fails_before_first (λ name. bytes_eq name word) names k d (omega arith) in
    let equal : bytes_eq (get_or names k d) word ≡ true = (bytes_eq-Decides (get_or names k d) word).1 same in
    cc

head_line : (line : Sentence) (key : Key) → key_of line.first ≡ Some key → IsHeadKey (Some key) → IsHead line
head_line line key e h = subst IsHeadKey (sym e) h

keeps_seen : (given : Given) (x : Setting) (n : ℕ) (y : Setting) → is_some (given_at given y) ≡ true → is_some (given_at (with_given given x n) y) ≡ true
keeps_seen given x n y h = grind arith

now_seen : (given : Given) (x : Setting) (n : ℕ) → is_some (given_at (with_given given x n) x) ≡ true
now_seen given x n = grind arith

same_setting : (x y : Setting) → some_key (Key.Setting x) ≡ some_key (Key.Setting y) → x ≡ y
same_setting x y e = cc

no_type : (x : Setting) → some_key (Key.Setting x) ≡ some_key Key.Type → ⊥
no_type x e = cc

told_set : (head : List Sentence) (draft : Draft) (x : Setting) (line : Sentence) → Told draft head → cause_at draft (Key.Setting x) line ≡ None → key_of line.first ≡ Some (Key.Setting x) → Told (continued draft (Key.Setting x) line) (head ++ line ∷ [])
unfolding continued
told_set head draft x line told c e =
    let fresh : is_some (given_at draft.given x) ≡ false = (allowed draft (Key.Setting x) line c).twice in
    let other : types_in (head ++ line ∷ []) ≡ types_in head = types_push_other head line (ap is_type_key e) in
    record {
      heads = All-push IsHead head line told.heads (head_line line (Key.Setting x) e tt);
      taken = All-push (IsTaken blank_draft) head line told.taken (taken_by blank_draft line (Key.Setting x) e (alone_set draft x line c));
      few = subst (λ (ns : List (List ℕ)). length ns ≤ 64) (sym (ap (map (λ (l : Sentence). l.second)) other)) told.few;
      once = all_pairs_push AreApart head line told.once (λ k d lt y f g.
          let same : x ≡ y = same_setting x y (sym e ∙ g) in
          let was : is_some (given_at draft.given y) ≡ true = told.seen k d lt y f in
          let not : is_some (given_at draft.given y) ≡ false = subst (λ (z : Setting). is_some (given_at draft.given z) ≡ false) same fresh in
          cc);
      seen = All-push (IsSeen (with_given draft.given x (number_in line.second))) head line
          (λ k d lt y f. keeps_seen draft.given x (number_in line.second) y (told.seen k d lt y f))
          (λ y f. subst (λ (z : Setting). is_some (given_at (with_given draft.given x (number_in line.second)) z) ≡ true) (same_setting x y (sym e ∙ f)) (now_seen draft.given x (number_in line.second)));
      apart = subst (λ (ns : List (List ℕ)). AllPairs (λ a b. a ≢ b) ns) (sym (ap (map (λ (l : Sentence). l.second)) other)) told.apart;
      given = ap (λ (g : Given). with_given g x (number_in line.second)) told.given
          ∙ sym (fold_push (λ (g : Given) (l : Sentence). given_by_key g l (key_of l.first)) nothing_given head line ∙ ap (given_by_key (settings_by head) line) e);
      names = told.names ∙ sym (ap (map (λ (l : Sentence). l.second)) other);
      shapes = told.shapes ∙ sym (ap (map (λ (l : Sentence). shape_with (fields_of l.third))) other);
    }

told_type : (head : List Sentence) (draft : Draft) (line : Sentence) → Told draft head → cause_at draft Key.Type line ≡ None → key_of line.first ≡ Some Key.Type → Told (continued draft Key.Type line) (head ++ line ∷ [])
unfolding continued
told_type head draft line told c e =
    let fresh : is_some (type_of draft.names line.second) ≡ false = (allowed draft Key.Type line c).twice in
    let names : names_by (head ++ line ∷ []) ≡ names_by head ++ line.second ∷ [] = ap (map (λ (l : Sentence). l.second)) (types_push head line (ap is_type_key e)) ∙ map_push (λ (l : Sentence). l.second) (types_in head) line in
    let fresh_by : is_some (type_of (names_by head) line.second) ≡ false = ap (λ (ns : List (List ℕ)). is_some (type_of ns line.second)) (sym told.names) ∙ fresh in
    let more : types_in (head ++ line ∷ []) ≡ types_in head ++ line ∷ [] = types_push head line (ap is_type_key e) in
    record {
      heads = All-push IsHead head line told.heads (head_line line Key.Type e tt);
      taken = All-push (IsTaken blank_draft) head line told.taken (taken_by blank_draft line Key.Type e (alone_type draft line c));
      few = omega (arith, ap length names, length_push (names_by head) line.second, type_few draft Key.Type line c refl, ap length told.names);
      once = all_pairs_push AreApart head line told.once (λ k d lt y f g. no_type y (sym g ∙ e));
      seen = All-push (IsSeen draft.given) head line told.seen (λ y f. absurd (no_type y (sym f ∙ e)));
      apart = subst (λ (ns : List (List ℕ)). AllPairs (λ a b. a ≢ b) ns) (sym names)
          (all_pairs_push (λ a b. a ≢ b) (names_by head) line.second told.apart (λ k d lt. name_fresh (names_by head) line.second k d lt fresh_by));
      given = told.given ∙ sym (fold_push (λ (g : Given) (l : Sentence). given_by_key g l (key_of l.first)) nothing_given head line ∙ ap (given_by_key (settings_by head) line) e);
      names = ap (λ (ns : List (List ℕ)). ns ++ line.second ∷ []) told.names ∙ sym (ap (map (λ (l : Sentence). l.second)) more ∙ map_push (λ (l : Sentence). l.second) (types_in head) line);
      shapes = ap (λ ss. ss ++ shape_with (fields_of line.third) ∷ []) told.shapes
          ∙ sym (ap (map (λ (l : Sentence). shape_with (fields_of l.third))) more ∙ map_push (λ (l : Sentence). shape_with (fields_of l.third)) (types_in head) line);
    }

-- the same settings, types and shapes
pub told_same : (draft new : Draft) (head : List Sentence) → Told draft head → new.given ≡ draft.given → new.names ≡ draft.names → new.shapes ≡ draft.shapes → Told new head
told_same draft new head t g n s = record {
  heads = t.heads;
  taken = t.taken;
  few = t.few;
  once = t.once;
  seen = subst (λ (given : Given). All (IsSeen given) head) (sym g) t.seen;
  apart = t.apart;
  given = g ∙ t.given;
  names = n ∙ t.names;
  shapes = s ∙ t.shapes;
}

-- ---- no goroutine is open

pub some_begun : (draft : Draft) (n : ℕ) → goroutines_begun draft ≡ suc n → leb 1 (goroutines_begun draft) ≡ false → ⊥
some_begun draft n e h = let none : goroutines_begun draft < 1 = leb-false 1 (goroutines_begun draft) h in absurd (omega arith)

none_open : (o : Option Open) → o ≡ None → is_none o ≡ false → ⊥
none_open o e h = let f : is_none o ≡ true = ap is_none e in cc

none_open_repeat : (o : Option Open) (b : Bool) → o ≡ None → (is_none o || b) ≡ false → ⊥
none_open_repeat o b e h = none_open o e (left_false (is_none o) b h)

-- before the first goroutine the head alone was said
head_alone : (names : List (List ℕ)) (head said : List Sentence) (routines : List Routine) (closed : List Goroutine) (current : Option Open) → said ≡ head ++ flat_map routine_lines routines → closed ≡ map (goroutine_by names) routines
    → leb 1 (length closed + length (option_to_list current)) ≡ false → (said ≡ head) × (closed ≡ [])
head_alone names head said [] closed current e f h = (e ∙ append-nil head, f)
head_alone names head said (r ∷ rs) closed current e f h = absurd (let some : length closed ≡ suc (length (map (goroutine_by names) rs)) = ap length f in let none = leb-false 1 (length closed + length (option_to_list current)) h in omega arith)

between_head : (said head : List Sentence) (draft : Draft) (line : Sentence) → said ≡ head → Told draft (head ++ line ∷ []) → draft.closed ≡ [] → draft.current ≡ None → Story (said ++ line ∷ []) draft
between_head said head draft line e t closed current = inl (record {
  head = head ++ line ∷ [];
  routines = [];
  lines = ap (λ (l : List Sentence). l ++ line ∷ []) e ∙ sym (append-nil (head ++ line ∷ []));
  told = told_same draft draft (head ++ line ∷ []) t refl refl refl;
  right = All-nil (IsRoutine (settings_by (head ++ line ∷ [])) (names_by (head ++ line ∷ [])));
  closed = closed;
  current = current;
})

between_go : (said : List Sentence) (draft : Draft) (line : Sentence) → Between said draft → cause_at draft Key.Go line ≡ None → key_of line.first ≡ Some Key.Go → Running (said ++ line ∷ []) (continued draft Key.Go line)
unfolding continued
between_go said draft line h c e = record {
  head = h.head;
  routines = h.routines;
  go = line;
  frames = [];
  block = Nothing;
  lines = ap (λ (l : List Sentence). l ++ line ∷ []) h.lines ∙ append_assoc h.head (flat_map routine_lines h.routines) (line ∷ []);
  told = told_same draft (record draft { current = Some (just_begun line.second) }) h.head h.told refl refl refl;
  right = h.right;
  begins = (e, alone_go draft line c);
  outer = tt;
  inner = tt;
  closed = h.closed;
  current = refl;
}

pub between_step : (said : List Sentence) (draft : Draft) (key : Key) (line : Sentence) → Between said draft → cause_at draft key line ≡ None → key_of line.first ≡ Some key → Story (said ++ line ∷ []) (continued draft key line)
unfolding continued
between_step said draft (Key.Setting x) line h c e =
    let w = head_alone (names_by h.head) h.head said h.routines draft.closed draft.current h.lines h.closed (allowed draft (Key.Setting x) line c).nesting in
    between_head said h.head (continued draft (Key.Setting x) line) line w.0 (told_set h.head draft x line h.told c e) w.1 h.current
between_step said draft Key.Type line h c e =
    let w = head_alone (names_by h.head) h.head said h.routines draft.closed draft.current h.lines h.closed (allowed draft Key.Type line c).nesting in
    between_head said h.head (continued draft Key.Type line) line w.0 (told_type h.head draft line h.told c e) w.1 h.current
between_step said draft Key.Go line h c e = inr (inl (between_go said draft line h c e))
between_step said draft Key.Repeat line h c e = absurd (none_open_repeat draft.current _ h.current (allowed draft Key.Repeat line c).nesting)
between_step said draft key line h c e = absurd (none_open draft.current h.current (allowed draft key line c).nesting)
