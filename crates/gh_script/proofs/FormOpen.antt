-- A line of a script where a goroutine is open, and where it has too many statements.
use Rattle.std.proofs.Common.{◌≡◌, ℕ, suc, ◌+◌, ◌<◌, true, false, eqb, leb, ◌&&◌, ◌||◌, List, [], ◌∷◌, ◌++◌, length, Option, Some, None, refl, sym, ap, ◌∙◌, subst, append_assoc, arith, inl, inr, ◌⊎◌, is_some, is_none, append-nil}
use Rattle.std.proofs.lemmas.List.{flat_map_more}
use Rattle.gh_script.proofs.Vocabulary.{All-push, are_too_many, Block, block_ended, cases_lt, cause_at, continued, Draft, flat_map, Goroutine, goroutine_by, goroutines_begun, inside, is_too_long, IsBlock, IsRoutine, kept, Key, key_of, lines_in, map_push, names_by, Nothing, number_in, Open, option_and_then, option_map, option_to_list, Repeat, repeat, Repeated, repeats_open, routine_lines, Say, Sentence, settings_by, statement_by_key, statement_of, statements_by, Stmt, with_closed, with_repeat, with_statement}
use Rattle.gh_script.proofs.Allowed.{allowed}
use Rattle.gh_script.proofs.Written.{kept_none, kept_some, written_behind, ended_repeat}
use Rattle.gh_script.proofs.FormSaid.{AreFrames, Frame, inside_end, inside_none, inside_repeat, inside_told, lines_within, Lost, open_by, repeats_by, Running, statements_within, Story, taken_by}
use Rattle.gh_script.proofs.FormHead.{some_begun, told_same}

-- ---- a goroutine is open

one_open : (o : Option Open) (g : Open) → o ≡ Some g → is_some o ≡ false → ⊥
one_open o g e h = let f : is_some o ≡ true = ap is_some e in cc

one_begun : (draft : Draft) (g : Open) → draft.current ≡ Some g → leb 1 (goroutines_begun draft) ≡ false → ⊥
one_begun draft g e h = some_begun draft (length draft.closed) (omega (arith, ap (λ (o : Option Open). length (option_to_list o)) e)) h

lines_within-more : (frames : List Frame) (block new : Block) (more : List Sentence) → lines_in new ≡ lines_in block ++ more → lines_within frames new ≡ lines_within frames block ++ more
lines_within-more [] block new more e = e
lines_within-more (f ∷ fs) block new more e = ap (λ (l : List Sentence). lines_within fs f.before ++ f.opens ∷ l) e ∙ sym (append_assoc (lines_within fs f.before) (f.opens ∷ lines_in block) more)

statements_within-more : (names : List (List ℕ)) (frames : List Frame) (block new : Block) (more : List Stmt) → statements_by names new ≡ statements_by names block ++ more → statements_within names frames new ≡ statements_within names frames block ++ more
statements_within-more names [] block new more e = e
statements_within-more names (f ∷ fs) block new more e = ap (λ (l : List Stmt). statements_within names fs f.before ++ l) e ∙ sym (append_assoc (statements_within names fs f.before) (statements_by names block) more)

-- the lines of all goroutines with some more of the last
routine_more : (head before within more : List Sentence) (go : Sentence) (said : List Sentence) → said ≡ head ++ (before ++ go ∷ within) → said ++ more ≡ head ++ (before ++ go ∷ (within ++ more))
routine_more head before within more go said e =
    ap (λ (l : List Sentence). l ++ more) e ∙ append_assoc head (before ++ go ∷ within) more ∙ ap (λ (l : List Sentence). head ++ l) (append_assoc before (go ∷ within) more)

kept_cases : (ss : List Stmt) → (kept ss ≡ None) ⊎ (kept ss ≡ Some ss)
kept_cases ss = elim (cases_lt 200000 (length ss)) [
  | inl lt ↦ inl (kept_none ss lt)
  | inr le ↦ inr (kept_some ss le)
]

-- the goroutine goes on with another block, or has too many statements
goes_on : (said : List Sentence) (draft new : Draft) (line : Sentence) (h : Running said draft) (frames : List Frame) (block : Block) (ss : List Stmt) → new.given ≡ draft.given → new.names ≡ draft.names → new.shapes ≡ draft.shapes → new.closed ≡ draft.closed
    → new.current ≡ Some (record { name = h.go.second; statements = kept ss; repeats = repeats_by (names_by h.head) frames })
    → ss ≡ statements_within (names_by h.head) frames block → lines_within frames block ≡ lines_within h.frames h.block ++ line ∷ []
    → AreFrames (settings_by h.head) (names_by h.head) frames → IsBlock (settings_by h.head) (names_by h.head) (length frames) block → Story (said ++ line ∷ []) new
goes_on said draft new line h frames block ss g n s c cur is lines outer inner = grind (arith, kept_cases, routine_more)

running_say : (said : List Sentence) (draft : Draft) (key : Key) (line : Sentence) (s : Stmt) → Running said draft → cause_at (inside draft.given draft.names) key line ≡ None → key_of line.first ≡ Some key → statement_of draft.names key line ≡ Some s
    → Story (said ++ line ∷ []) (record draft { current = option_map (with_statement (statement_of draft.names key line)) draft.current })
running_say said draft key line s h c e is =
    let told : statement_by_key (names_by h.head) line (key_of line.first) ≡ Some s = ap (statement_by_key (names_by h.head) line) e ∙ ap (λ (ns : List (List ℕ)). statement_of ns key line) (sym h.told.names) ∙ is in
    let one : option_to_list (statement_of draft.names key line) ≡ option_to_list (statement_by_key (names_by h.head) line (key_of line.first)) = ap option_to_list (is ∙ sym told) in
    goes_on said draft (record draft { current = option_map (with_statement (statement_of draft.names key line)) draft.current }) line h h.frames (Say h.block line)
    (statements_within (names_by h.head) h.frames h.block ++ option_to_list (statement_of draft.names key line)) refl refl refl refl
    (ap (option_map (with_statement (statement_of draft.names key line))) h.current)
    (ap (λ (l : List Stmt). statements_within (names_by h.head) h.frames h.block ++ l) one ∙ sym (statements_within-more (names_by h.head) h.frames h.block (Say h.block line) (option_to_list (statement_by_key (names_by h.head) line (key_of line.first))) refl))
    (lines_within-more h.frames h.block (Say h.block line) (line ∷ []) refl)
    h.outer
    (h.inner, (s, told), taken_by (inside (settings_by h.head) (names_by h.head)) line key e (inside_told draft h.head key line h.told c))

length-repeats_by : (names : List (List ℕ)) (frames : List Frame) → length (repeats_by names frames) ≡ length frames
length-repeats_by names [] = refl
length-repeats_by names (f ∷ fs) = ap suc (length-repeats_by names fs)

few_open : (draft : Draft) (names : List (List ℕ)) (go : Sentence) (frames : List Frame) (block : Block) → draft.current ≡ Some (open_by names go frames block) → (is_none draft.current || leb 8 (length (repeats_open draft))) ≡ false → length frames < 8
few_open draft names go frames block e h = grind (arith, length-repeats_by)

running_repeat : (said : List Sentence) (draft : Draft) (line : Sentence) → Running said draft → cause_at draft Key.Repeat line ≡ None → key_of line.first ≡ Some Key.Repeat → Running (said ++ line ∷ []) (continued draft Key.Repeat line)
unfolding continued
running_repeat said draft line h c e = record {
  head = h.head;
  routines = h.routines;
  go = h.go;
  frames = record { before = h.block; opens = line } ∷ h.frames;
  block = Nothing;
  lines = routine_more h.head (flat_map routine_lines h.routines) (lines_within h.frames h.block) (line ∷ []) h.go said h.lines;
  told = told_same draft (record draft { current = option_map (with_repeat (number_in line.second)) draft.current }) h.head h.told refl refl refl;
  right = h.right;
  begins = h.begins;
  outer = (h.inner, (e, inside_told draft h.head Key.Repeat line h.told (inside_repeat draft line c)), few_open draft (names_by h.head) h.go h.frames h.block h.current (allowed draft Key.Repeat line c).nesting, h.outer);
  inner = tt;
  closed = h.closed;
  current = ap (option_map (with_repeat (number_in line.second))) h.current
      ∙ ap (λ (l : List Stmt). Some (record { name = h.go.second; statements = Some l; repeats = record { start = length (statements_within (names_by h.head) h.frames h.block); times = number_in line.second } ∷ repeats_by (names_by h.head) h.frames }))
      (sym (append-nil (statements_within (names_by h.head) h.frames h.block)));
}

-- `end` closes the innermost `repeat`
running_close : (said : List Sentence) (draft : Draft) (line : Sentence) (h : Running said draft) (f : Frame) (fs : List Frame) → h.frames ≡ f ∷ fs → cause_at draft Key.End line ≡ None → key_of line.first ≡ Some Key.End
    → Story (said ++ line ∷ []) (block_ended draft (Some (open_by (names_by h.head) h.go (f ∷ fs) h.block)))
running_close said draft line h f fs e c k =
    let outer : AreFrames (settings_by h.head) (names_by h.head) (f ∷ fs) = subst (AreFrames (settings_by h.head) (names_by h.head)) e h.outer in
    let inner : IsBlock (settings_by h.head) (names_by h.head) (length fs + 1) h.block =
    subst (λ (n : ℕ). IsBlock (settings_by h.head) (names_by h.head) n h.block) (ap length e ∙ omega arith) h.inner in
    let innermost : Repeat = record { start = length (statements_within (names_by h.head) fs f.before); times = number_in f.opens.second } in
    subst (Story (said ++ line ∷ [])) (sym (ended_repeat draft (open_by (names_by h.head) h.go (f ∷ fs) h.block) innermost (repeats_by (names_by h.head) fs) refl)) (goes_on said draft (record draft { current = Some (with_closed (open_by (names_by h.head) h.go (f ∷ fs) h.block) (repeats_by (names_by h.head) (f ∷ fs))) }) line h fs (Repeated f.before f.opens h.block line)
    (statements_within (names_by h.head) fs f.before ++ repeat (number_in f.opens.second) (statements_by (names_by h.head) h.block)) refl refl refl refl
    (ap (λ (o : Option (List Stmt)). Some (record { name = h.go.second; statements = o; repeats = repeats_by (names_by h.head) fs }))
    (written_behind (statements_within (names_by h.head) fs f.before) (statements_by (names_by h.head) h.block) (number_in f.opens.second)))
    (sym (statements_within-more (names_by h.head) fs f.before (Repeated f.before f.opens h.block line) (repeat (number_in f.opens.second) (statements_by (names_by h.head) h.block)) refl))
    (lines_within-more fs f.before (Repeated f.before f.opens h.block line) (f.opens ∷ (lines_in h.block ++ line ∷ [])) refl
    ∙ sym (append_assoc (lines_within fs f.before) (f.opens ∷ lines_in h.block) (line ∷ []))
    ∙ sym (ap (λ (l : List Frame). lines_within l h.block ++ line ∷ []) e))
    outer.3
    (outer.0, outer.1, outer.2, inner, (k, inside_told draft h.head Key.End line h.told (inside_end draft line c))))

-- `end` closes the goroutine
running_over : (said : List Sentence) (draft : Draft) (line : Sentence) (h : Running said draft) → h.frames ≡ [] → cause_at draft Key.End line ≡ None → key_of line.first ≡ Some Key.End
    → Story (said ++ line ∷ []) (block_ended draft (Some (open_by (names_by h.head) h.go [] h.block)))
running_over said draft line h e c k =
    let inner : IsBlock (settings_by h.head) (names_by h.head) 0 h.block = subst (λ (n : ℕ). IsBlock (settings_by h.head) (names_by h.head) n h.block) (ap length e) h.inner in
    let right : IsRoutine (settings_by h.head) (names_by h.head) (record { go = h.go; block = h.block; last = line }) =
    record { begins = h.begins; block = inner; ends = (k, inside_told draft h.head Key.End line h.told (inside_end draft line c)) } in
    inl (record {
      head = h.head;
      routines = h.routines ++ record { go = h.go; block = h.block; last = line } ∷ [];
      lines = routine_more h.head (flat_map routine_lines h.routines) (lines_within h.frames h.block) (line ∷ []) h.go said h.lines
          ∙ ap (λ (l : List Frame). h.head ++ (flat_map routine_lines h.routines ++ h.go ∷ (lines_within l h.block ++ line ∷ []))) e
          ∙ ap (λ (l : List Sentence). h.head ++ l) (flat_map_more routine_lines [] h.routines (record { go = h.go; block = h.block; last = line }));
      told = told_same draft (block_ended draft (Some (open_by (names_by h.head) h.go [] h.block))) h.head h.told refl refl refl;
      right = All-push (IsRoutine (settings_by h.head) (names_by h.head)) h.routines (record { go = h.go; block = h.block; last = line }) h.right right;
      closed = ap (λ (l : List Goroutine). l ++ goroutine_by (names_by h.head) (record { go = h.go; block = h.block; last = line }) ∷ []) h.closed
          ∙ sym (map_push (goroutine_by (names_by h.head)) h.routines (record { go = h.go; block = h.block; last = line }));
      current = refl;
    })

running_end : (said : List Sentence) (draft : Draft) (line : Sentence) (h : Running said draft) (frames : List Frame) → h.frames ≡ frames → cause_at draft Key.End line ≡ None → key_of line.first ≡ Some Key.End
    → Story (said ++ line ∷ []) (block_ended draft (Some (open_by (names_by h.head) h.go frames h.block)))
running_end said draft line h [] e c k = running_over said draft line h e c k
running_end said draft line h (f ∷ fs) e c k = running_close said draft line h f fs e c k

pub running_step : (said : List Sentence) (draft : Draft) (key : Key) (line : Sentence) → Running said draft → cause_at draft key line ≡ None → key_of line.first ≡ Some key → Story (said ++ line ∷ []) (continued draft key line)
unfolding continued
running_step said draft (Key.Setting x) line h c e = absurd (one_begun draft _ h.current (allowed draft (Key.Setting x) line c).nesting)
running_step said draft Key.Type line h c e = absurd (one_begun draft _ h.current (allowed draft Key.Type line c).nesting)
running_step said draft Key.Go line h c e = absurd (one_open draft.current _ h.current (allowed draft Key.Go line c).nesting)
running_step said draft Key.Repeat line h c e = inr (inl (running_repeat said draft line h c e))
running_step said draft Key.End line h c e = subst (Story (said ++ line ∷ [])) (sym (ap (block_ended draft) h.current)) (running_end said draft line h h.frames refl c e)
running_step said draft Key.New line h c e = running_say said draft Key.New line _ h (let a = allowed draft Key.New line c in inside_none draft Key.New line a a.limit a.twice a.unknown refl) e refl
running_step said draft Key.Load line h c e = running_say said draft Key.Load line _ h (let a = allowed draft Key.Load line c in inside_none draft Key.Load line a a.limit a.twice a.unknown refl) e refl
running_step said draft Key.Store line h c e = running_say said draft Key.Store line _ h (let a = allowed draft Key.Store line c in inside_none draft Key.Store line a a.limit a.twice a.unknown refl) e refl
running_step said draft Key.GetGlobal line h c e = running_say said draft Key.GetGlobal line _ h (let a = allowed draft Key.GetGlobal line c in inside_none draft Key.GetGlobal line a a.limit a.twice a.unknown refl) e refl
running_step said draft Key.SetGlobal line h c e = running_say said draft Key.SetGlobal line _ h (let a = allowed draft Key.SetGlobal line c in inside_none draft Key.SetGlobal line a a.limit a.twice a.unknown refl) e refl
running_step said draft Key.Int line h c e = running_say said draft Key.Int line _ h (let a = allowed draft Key.Int line c in inside_none draft Key.Int line a a.limit a.twice a.unknown refl) e refl
running_step said draft Key.Move line h c e = running_say said draft Key.Move line _ h (let a = allowed draft Key.Move line c in inside_none draft Key.Move line a a.limit a.twice a.unknown refl) e refl
running_step said draft Key.Nil line h c e = running_say said draft Key.Nil line _ h (let a = allowed draft Key.Nil line c in inside_none draft Key.Nil line a a.limit a.twice a.unknown refl) e refl
running_step said draft Key.Gc line h c e = running_say said draft Key.Gc line _ h (let a = allowed draft Key.Gc line c in inside_none draft Key.Gc line a a.limit a.twice a.unknown refl) e refl

-- ---- too many statements

lost_none : (closed : List Goroutine) (o : Option Open) (g : Open) → o ≡ Some g → g.statements ≡ None → g.repeats ≡ [] → is_too_long closed o ≡ false → ⊥
lost_none closed o g e none f h =
    let long : is_too_long closed o ≡ true = ap (is_too_long closed) e ∙ ap (λ (l : List Repeat). eqb (length l) 0 && are_too_many closed g.statements) f ∙ ap (are_too_many closed) none in
    cc

lost_end : (draft : Draft) (g : Open) (repeats : List Repeat) → draft.current ≡ Some g → g.statements ≡ None → g.repeats ≡ repeats → is_too_long draft.closed draft.current ≡ false → Lost (block_ended draft draft.current)
lost_end draft g repeats e none f h = grind (arith, lost_none)

pub lost_step : (draft : Draft) (key : Key) (line : Sentence) → Lost draft → cause_at draft key line ≡ None → Lost (continued draft key line)
unfolding continued
lost_step draft (Key.Setting x) line h c = absurd (one_begun draft h.g h.current (allowed draft (Key.Setting x) line c).nesting)
lost_step draft Key.Type line h c = absurd (one_begun draft h.g h.current (allowed draft Key.Type line c).nesting)
lost_step draft Key.Go line h c = absurd (one_open draft.current h.g h.current (allowed draft Key.Go line c).nesting)
lost_step draft Key.Repeat line h c = record { g = with_repeat (number_in line.second) h.g; current = ap (option_map (with_repeat (number_in line.second))) h.current; none = h.none }
lost_step draft Key.End line h c = lost_end draft h.g h.g.repeats h.current h.none refl (allowed draft Key.End line c).limit
lost_step draft key line h c = record {
  g = with_statement (statement_of draft.names key line) h.g;
  current = ap (option_map (with_statement (statement_of draft.names key line))) h.current;
  none = ap (option_and_then (λ (ss : List Stmt). kept (ss ++ option_to_list (statement_of draft.names key line)))) h.none;
}
