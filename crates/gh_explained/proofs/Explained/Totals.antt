-- The last numbers of a run: how many objects are live, and how many bytes.
use Rattle.std.proofs.Common.{◌≡◌, ℕ, ◌+◌, ◌*◌, ◌^◌, ◌-◌, ◌<◌, ◌≤◌, Bool, true, ◌&&◌, sym, ap, subst, ◌∙◌, arith, List, [], ◌∷◌, get_or, length, Some, inr, ◌↔◌, slice_get}
use Rattle.std.proofs.lemmas.Bool.{eqb-true}
use Rattle.std.proofs.lemmas.Option.{slice_get-get_or}
use Rattle.gh_explained.proofs.Vocabulary.{acks_of, Actor, actor_after, alloc_words, AllStands, are_apart, AreLive, arena_of, AreNamed, Ask, bit, by_field, by_global, Cell, Coordinating, Cycle, effect, EndsCycle, Entry, Ever, ever_after_list, from_field, from_global, is_made, is_placed, is_set, IsAmong, IsHeldByGlobals, IsMade, IsMarkedObject, IsPlacedAt, IsStartOf, Layout, LeavesTheReached, Legal, legal_start, mark_words, marked_by, marked_objects, Name, name_at, no_more, Op, page_words, Program, Reach, row_bit, setting_of, setup_of, slot_row, start_of_start, sum_same, whole, Words, words_in}
use Rattle.gh_coord.specs.Listing as coord
use Rattle.gh_world.specs.RunVocabulary.{last_kept}
use Rattle.gh_explained.proofs.Explained.Cycles.{as_many, at_end, ends_by, is_done}
use Rattle.gh_explained.proofs.Explained.Last.{some_swept}
use Rattle.gh_explained.proofs.Explained.Live as live
use Rattle.gh_explained.proofs.Explained.Live.{bytes_by_bits, OfEveryList, set_is}
use Rattle.gh_lists.specs.Names.{same_birth_same_name}
use Rattle.gh_lists.specs.Resting.{ever_stays}

reached_of_held : (e : Ever) (n : Name) → IsHeldByGlobals e n → Reach e n
reached_of_held e n (by_global i m is) = from_global i m is
reached_of_held e n (by_field m i o h is) = from_field m i o (reached_of_held e m h) is

shorter : (e : Entry Op) (before es : List (Entry Op)) → IsStartOf (e ∷ before) es → IsStartOf before es
shorter e before es is = start_of_start before (e ∷ before) es (inr (whole before)) is

both_true : (a b : Bool) → a ≡ true → b ≡ true → (a && b) ≡ true
both_true a b e f = grind arith

second_true : (a b : Bool) → (a && b) ≡ true → b ≡ true
second_true a b e = grind arith

module _ (p : Program) (l : Layout) (every : OfEveryList p l) where
  abbrev words : List (Entry Op) → Words
  words xs = words_in p l xs

  abbrev ever : List (Entry Op) → Ever
  ever xs = ever_after_list (arena_of p.shapes l) (setting_of p l).opening xs

  abbrev IsMarked : Words → Name → Type 0
  IsMarked w n = IsMarkedObject (setup_of p l) w n

  abbrev named : (xs : List (Entry Op)) → Legal (setting_of p l) xs → AreNamed (ever xs).made (words xs)
  named xs legal = (every.stands xs legal).objects.named

  -- where the objects that stand are those that are reached
  module _ (es : List (Entry Op)) (legal : Legal (setting_of p l) es) (left : (n : Name) → IsMade (ever es).made n → ((a : ℕ) × IsPlacedAt (words es) n a) ↔ Reach (ever es) n) where
    stands_reached : (x : ℕ) → is_set (alloc_words (words es)) x ≡ true → Reach (ever es) (name_at (words es) (ever es).made (named es legal) x)
    stands_reached x t = (left (name_at (words es) (ever es).made (named es legal) x) (is_made (words es) (ever es).made (named es legal) x t)).0 (x, is_placed (words es) (ever es).made (named es legal) x t)

    is_standing : (n : Name) (a : ℕ) → Reach (ever es) n → IsPlacedAt (words es) n a → is_set (alloc_words (words es)) a ≡ true
    is_standing n a r at = set_is (alloc_words (words es)) a at.set

    abbrev set_then : ℕ → Bool
    set_then = is_set (alloc_words (words es))

    set_tells : live.TellsReached p l every es legal set_then
    set_tells = record { sets = λ x t. t; reached = stands_reached; tests = is_standing; some = λ n r. (left n (every.made es n r)).1 r }

    abbrev standing : List Name
    standing = live.names p l every es legal set_then set_tells

    -- where a cycle's marking ended, as many were marked, if they were the same
    module _ (before : List (Entry Op)) (legal_before : Legal (setting_of p l) before) (grows : (n : Name) → IsMade (ever before).made n → IsMade (ever es).made n) (few : (n : Name) → IsMade (ever es).made n → n.k < 2 ^ 32)
        (same : (n : Name) → IsMade (ever es).made n → IsMarked (words before) n ↔ Reach (ever es) n) (then : (n : Name) → IsMade (ever before).made n → IsMarked (words before) n ↔ Reach (ever before) n) where
      abbrev w : Words
      w = words before

      abbrev test : ℕ → Bool
      test x = is_set (alloc_words w) x && is_set (mark_words w) x

      sets : (x : ℕ) → test x ≡ true → is_set (alloc_words w) x ≡ true
      sets x t = grind arith

      marks_reached : (x : ℕ) → test x ≡ true → Reach (ever before) (name_at w (ever before).made (named before legal_before) x)
      marks_reached x t = (then (name_at w (ever before).made (named before legal_before) x) (is_made w (ever before).made (named before legal_before) x (sets x t))).0 (x, is_placed w (ever before).made (named before legal_before) x (sets x t), eqb-true (row_bit (mark_words w) x) 1 (second_true (is_set (alloc_words w) x) (is_set (mark_words w) x) t))

      is_marked : (n : Name) (a : ℕ) → Reach (ever before) n → IsPlacedAt w n a → test a ≡ true
      is_marked n a r at =
          let m = (then n (every.made before n r)).1 r in
          let one : m.0 ≡ a = live.one_place p l every before legal_before n m.0 a r m.1 at in
          both_true (is_set (alloc_words w) a) (is_set (mark_words w) a) (set_is (alloc_words w) a at.set) (set_is (mark_words w) a (ap (row_bit (mark_words w)) (sym one) ∙ m.2))

      some_marked : (n : Name) → Reach (ever before) n → (a : ℕ) × IsPlacedAt w n a
      some_marked n r = let m = (then n (every.made before n r)).1 r in (m.0, m.1)

      test_tells : live.TellsReached p l every before legal_before test
      test_tells = record { sets = sets; reached = marks_reached; tests = is_marked; some = some_marked }

      abbrev marked : List Name
      marked = live.names p l every before legal_before test test_tells

      to_standing : (n : Name) → IsAmong n marked → IsAmong n standing
      to_standing n a =
          let r = live.are_reached p l every before legal_before test test_tells n a in
          live.are_listed p l every es legal set_then set_tells n ((same n (grows n (every.made before n r))).0 ((then n (every.made before n r)).1 r))

      -- what is marked there was made by then
      was_made : (n : Name) → IsMade (ever es).made n → IsMarked w n → IsMade (ever before).made n
      was_made n of m =
          let set : is_set (alloc_words w) m.0 ≡ true = set_is (alloc_words w) m.0 m.1.set in
          let other = name_at w (ever before).made (named before legal_before) m.0 in
          let there = is_made w (ever before).made (named before legal_before) m.0 set in
          let at = is_placed w (ever before).made (named before legal_before) m.0 set in
          let one : other ≡ n = same_birth_same_name other n (few other (grows other there)) (few n of) (sym at.says ∙ m.1.says) in
          subst (IsMade (ever before).made) one there

      to_marked : (n : Name) → IsAmong n standing → IsAmong n marked
      to_marked n a =
          let r = live.are_reached p l every es legal set_then set_tells n a in
          live.are_listed p l every before legal_before test test_tells n (there n (every.made es n r) ((same n (every.made es n r)).1 r)) where
            there : (n : Name) → IsMade (ever es).made n → IsMarked w n → Reach (ever before) n
            there n of m = (then n (was_made n of m)).0 m

      as_marked : length marked ≡ length standing
      as_marked =
          let one = no_more marked standing (live.once p l every before legal_before test test_tells) to_standing in
          let other = no_more standing marked (live.once p l every es legal set_then set_tells) to_marked in
          omega (arith, one, other)

      marked_are : marked_objects (alloc_words w) (mark_words w) 0 l.pages ≡ length standing
      marked_are =
          sum_same (λ x. bit (is_set (alloc_words w) (1024 * 0 + x) && is_set (mark_words w) (1024 * 0 + x))) (λ x. bit (test x)) (1024 * l.pages) (λ x lt. ap (λ (y : ℕ). bit (test y)) (omega arith))
          ∙ sym (live.many p l every before legal_before test test_tells)
          ∙ as_marked

  -- ---- at the end of a run
  module _ (es : List (Entry Op)) (c : Coordinating) (legal : Legal (setting_of p l) es) (led : actor_after p l es (acks_of l) ≡ Actor.Leads c) (done : coord.is_done_at c.stage ≡ true)
      (held : (n : Name) → Reach (ever es) n → IsHeldByGlobals (ever es) n) (grows : (start : List (Entry Op)) → IsStartOf start es → (n : Name) → IsMade (ever start).made n → IsMade (ever es).made n) (few : (n : Name) → IsMade (ever es).made n → n.k < 2 ^ 32) where
    abbrev stands : AllStands (setup_of p l) es
    stands = every.stands es legal

    some : 1 ≤ words es Cell.Swept
    some = some_swept p l every.known es c legal led (is_done c.stage done)

    last : LeavesTheReached (setup_of p l) es c
    last = stands.last c led (is_done c.stage done)

    abbrev names : List Name
    names = standing es legal last.left

    abbrev filler : Cycle
    filler = record { k = 0; marked = 0; freed = 0 }

    abbrev newest : Cycle
    newest = get_or c.cycles.items (length c.cycles.items - 1) filler

    long : length c.cycles.items ≡ words es Cell.Swept
    long = as_many p l every.known es c legal led done

    is_newest : slice_get c.cycles.items (length c.cycles.items - 1) ≡ Some newest
    is_newest = slice_get-get_or c.cycles.items (length c.cycles.items - 1) filler (omega (arith, long, some))

    number_is : newest.k ≡ c.begun
    number_is =
        let at = at_end p l every.known es c legal led done in
        let n = at.number_is in
        let m = at.keeps.numbered (length c.cycles.items - 1) newest is_newest in
        omega (arith, n, m, long, some)

    counted_there : (ended : List (Entry Op)) → IsStartOf ended es → EndsCycle (setup_of p l) newest.k ended → marked_objects (alloc_words (words ended)) (mark_words (words ended)) 0 l.pages ≡ length names
    counted_there [] start ends = absurd ends
    counted_there (e ∷ before) start ends =
        let legal_ended = legal_start (setting_of p l) (e ∷ before) es start legal in
        let stores = ends_by p l every.known newest.k e before legal_ended ends in
        let begun : EndsCycle (setup_of p l) c.begun (e ∷ before) = subst (λ (n : ℕ). EndsCycle (setup_of p l) n (e ∷ before)) number_is ends in
        let beyond : l.procs ≤ e.actor = let it = ends.by in omega (arith, it) in
        let stays : ever es ≡ ever before = last.unchanged (e ∷ before) start begun ∙ ever_stays (setup_of p l) every.known.points e before legal_ended beyond in
        let now : (n : Name) → IsMade (ever es).made n → IsMarked (effect (words before) e.ask) n ↔ Reach (ever es) n = last.marked (e ∷ before) start begun in
        let was : (n : Name) → IsMade (ever es).made n → IsMarked (words before) n ↔ Reach (ever es) n = subst (λ (q : Ask). (n : Name) → IsMade (ever es).made n → IsMarked (effect (words before) q) n ↔ Reach (ever es) n) stores.1 now in
        ap (λ (q : Ask). marked_objects (alloc_words (effect (words before) q)) (mark_words (effect (words before) q)) 0 l.pages) stores.1
        ∙ marked_are es legal last.left before legal_ended.0 (grows before (shorter e before es start)) few was (subst (λ (y : Ever). (n : Name) → IsMade y.made n → IsMarked (words before) n ↔ Reach y n) stays was)

    objects_are : marked_by (last_kept c.cycles) ≡ length names
    objects_are =
        let y = stands.counts c led (length c.cycles.items - 1) newest is_newest in
        ap marked_by is_newest ∙ y.marked ∙ counted_there y.ended y.start y.ends

    abbrev set_at_end : ℕ → Bool
    set_at_end = set_then es legal last.left

    tells : live.TellsReached p l every es legal set_at_end
    tells = set_tells es legal last.left

    pub are_live : AreLive p.shapes (ever es) (marked_by (last_kept c.cycles)) c.live
    are_live = record {
      names = names;
      all = λ n. (λ h. live.are_listed p l every es legal set_at_end tells n (reached_of_held (ever es) n h), λ a. held n (live.are_reached p l every es legal set_at_end tells n a));
      once = are_apart names (live.once p l every es legal set_at_end tells);
      objects_are = objects_are;
      bytes_are = last.live ∙ bytes_by_bits every.bits (alloc_words (words es)) (slot_row (page_words (words es))) l.pages stands.objects.fits ∙ sym (live.bytes p l every es legal set_at_end tells);
    }
