-- Where there is no room for an object of the one type, each slot of the arena is taken, but for those of one span of each processor: these are too many for the objects that there are.
use Rattle.std.proofs.Common.{◌≡◌, ◌≢◌, ◌⊎◌, inl, inr, ℕ, suc, ◌+◌, ◌*◌, ◌/◌, ◌%◌, ◌<◌, ◌≤◌, List, length, refl, sym, ap, subst, ◌∙◌, arith, mul-le-mul_left, mul_comm}
use Rattle.gh_plenty.proofs.Vocabulary.{all_objects, AllStands, arena_of, cases_lt, Entry, Ever, HasPlenty, IsAnothers, IsPlacedAt, Layout, LaysOut, NoRoomFor, objects_of, Op, pages_of, Program, setup_of, Shape, slot_of, slot_words, slots_of, sought_by, sought_for, total}
use Rattle.gh_base.specs.declared.cell.Cell.{Cell}
use Rattle.gh_base.specs.declared.pack.PageWord.{PageWord}
use Rattle.gh_base.specs.declared.pack.PageWord.TheVariants.{Body, Free, Head}
use Rattle.gh_base.specs.declared.pack.SpanHead.{SpanHead}
use Rattle.gh_base.specs.declared.value.Name.{Name}
use Rattle.gh_base.specs.Cells.{Words}
use Rattle.gh_base.specs.Packing.{page_of}
use Rattle.gh_base.specs.Rows.{alloc_words, row_bit}
use Rattle.gh_base.specs.Shapes.{shape_at}
use Rattle.gh_class.specs.declared.class.SizeClass.{SizeClass}
use Rattle.gh_heap.specs.Objects.{IsMade}
use Rattle.gh_heap.specs.Spans.{IsFull, slot_count, slot_size}
use Rattle.gh_alloc.specs.declared.sought.Sought.{Sought}
use Rattle.gh_alloc.specs.declared.sought.Sought.TheVariants.{Small}
use Rattle.gh_alloc.specs.Find.{span_for}
use Rattle.gh_world.specs.Below.{IsStanding as IsStandingObject, IsPageFor}
use Rattle.gh_lists.specs.Lists as lists
use Rattle.gh_plenty.proofs.Codes.{digits, one, up}
use Rattle.gh_plenty.proofs.Counting.{HaveTheirOwn, no_more_pairs}

-- where the slots of a span of one page lie
pub record LieWithin (slots words : ℕ) : Type 0 where
  pub some : 0 < slots
  pub wide : 0 < words
  pub within : (i : ℕ) → i < slots → words * i < 1024

-- those of a class of which a span has one page
pub lie_within : (c : ℕ) → 8 ≤ slot_of c → slot_of c % 8 ≡ 0 → 1 ≤ slots_of c → slots_of c * slot_of c ≤ 8192 * pages_of c → pages_of c ≡ 1 → LieWithin (slots_of c) (slot_of c / 8)
lie_within c least whole some fit one_page = record { some = omega (arith, some); wide = omega (arith, least); within = within } where
  bytes : slot_of c ≡ 8 * (slot_of c / 8)
  bytes = omega (arith, whole)

  within : (i : ℕ) → i < slots_of c → slot_of c / 8 * i < 1024
  within i lt =
      let up : slot_of c * suc i ≤ slot_of c * slots_of c = mul-le-mul_left (slot_of c) (let le : suc i ≤ slots_of c = omega (arith, lt) in le) in
      let more : slot_of c * suc i ≡ slot_of c * i + slot_of c = omega arith in
      let turned : slots_of c * slot_of c ≡ slot_of c * slots_of c = mul_comm (slots_of c) (slot_of c) in
      let eighth : slot_of c * i ≡ 8 * (slot_of c / 8 * i) = ap (λ (n : ℕ). n * i) bytes ∙ omega arith in
      omega (arith, up, more, turned, fit, one_page, least, eighth)

module _ (p : Program) (l : Layout) (es : List (Entry Op)) (plenty : HasPlenty p) (stands : AllStands (setup_of p l) es) (lie : LieWithin (slots_of plenty.class) (slot_of plenty.class / 8)) where
  abbrev pub ever : Ever
  ever = lists.ever (setup_of p l) es

  abbrev pub w : Words
  w = lists.words (setup_of p l) es

  abbrev slots : ℕ
  slots = slots_of plenty.class

  abbrev words : ℕ
  words = slot_of plenty.class / 8

  abbrev class : SizeClass
  class = SizeClass.Small plenty.class

  -- what is sought for an object of the one type
  sought_is : sought_for plenty.shape ≡ Small (record { class = plenty.class; noscan = plenty.shape.noscan })
  sought_is = ap (λ (c : SizeClass). sought_by c plenty.shape.noscan (slot_words plenty.shape.words)) plenty.small

  -- A page is a whole span of the one class.
  pub record IsSpanAt (q : ℕ) : Type 0 where
    pub h : SpanHead
    pub there : page_of (w (Cell.Page q)) ≡ Head h
    pub class_is : h.class ≡ SizeClass.Small plenty.class
    pub noscan_is : h.noscan ≡ plenty.shape.noscan

  one_page : (span_for (sought_for plenty.shape)).pages ≡ 1
  one_page = ap (λ (s : Sought). (span_for s).pages) sought_is ∙ plenty.one_page

  span_class : (span_for (sought_for plenty.shape)).class ≡ class
  span_class = ap (λ (s : Sought). (span_for s).class) sought_is

  span_noscan : (span_for (sought_for plenty.shape)).noscan ≡ plenty.shape.noscan
  span_noscan = ap (λ (s : Sought). (span_for s).noscan) sought_is

  of_page : (q : ℕ) (page : PageWord) → page_of (w (Cell.Page q)) ≡ page → IsPageFor plenty.shape page → IsSpanAt q
  of_page q Free is for = absurd for
  of_page q (Head h) is for = record { h = h; there = is; class_is = for.class ∙ span_class; noscan_is = for.noscan ∙ span_noscan }
  of_page q (Body b) is for = absurd (let some = for.distance.0 in let below = for.distance.1 in let pages = one_page in omega (arith, some, below, pages))

  pub the_type : (t : ℕ) → t < length p.shapes → shape_at p.shapes t ≡ plenty.shape
  the_type t lt =
      let none : t ≡ 0 = let many : length p.shapes ≡ 1 = ap length plenty.type in omega (arith, lt, many) in
      ap (λ (n : ℕ). shape_at p.shapes n) none ∙ ap (λ (shapes : List Shape). shape_at shapes 0) plenty.type

  taken_page : (q : ℕ) → page_of (w (Cell.Page q)) ≢ Free → IsSpanAt q
  taken_page q taken = elim (stands.spans.types q) [
    | inl free ↦ absurd (taken free)
    | inr for ↦ of_page q (page_of (w (Cell.Page q))) refl (subst (λ (s : Shape). IsPageFor s (page_of (w (Cell.Page q)))) (the_type for.0 for.1) for.2)
  ]

  -- What stands in its slots: objects; or it is a processor's, of which there are few.
  data Has (q i v : ℕ) : Type 0 where
    stands_there : (n : Name) → IsMade ever.made n → IsPlacedAt w n (1024 * q + i * words) → v ≡ total (objects_of p) n.g + n.k → Has q i v
    is_cached : (a : ℕ) (s : IsSpanAt q) → a < l.procs → s.h.owner ≡ a + 1 → v ≡ all_objects p + (slots * a + i) → Has q i v

  -- One slot has one number.

  record SameSlot (q i x j : ℕ) : Type 0 where
    page : q ≡ x
    slot : i ≡ j

  -- an object stands in one slot
  module _ (q i x j : ℕ) (few_i : i < slots) (few_j : j < slots) where
    apart : (n : Name) → IsMade ever.made n → IsPlacedAt w n (1024 * q + i * words) → IsPlacedAt w n (1024 * x + j * words) → SameSlot q i x j
    apart n made here there =
        let standing : IsStandingObject (setup_of p l) es n = (made, (1024 * q + i * words, here)) in
        let first = stands.apart.stand.once n (1024 * q + i * words) standing here in
        let second = stands.apart.stand.once n (1024 * x + j * words) standing there in
        let in_page = lie.within i few_i in let in_other = lie.within j few_j in
        let turned : i * words ≡ words * i = mul_comm i words in
        let also : j * words ≡ words * j = mul_comm j words in
        let page : q ≡ x = omega (arith, first, second, in_page, in_other, turned, also) in
        let rows : words * i + 0 ≡ words * j + 0 = omega (arith, first, second, in_page, in_other, turned, also, page) in
        record { page = page; slot = (digits words i 0 j 0 lie.wide lie.wide rows).digit }

  module _ (few : (g : ℕ) → ever.made g ≤ objects_of p g) (none : (g : ℕ) → length p.goroutines ≤ g → ever.made g ≡ 0) where
    abbrev bound : ℕ
    bound = all_objects p + slots * l.procs

    -- a name has a number of its own below that of all objects
    is_named : (n : Name) → IsMade ever.made n → n.k < objects_of p n.g
    is_named n made = let most = few n.g in omega (arith, made, most)

    below_all : (n : Name) → IsMade ever.made n → total (objects_of p) n.g + n.k < all_objects p
    below_all n made = elim (cases_lt n.g (length p.goroutines)) [
      | inl lt ↦ let le = up (objects_of p) (length p.goroutines) n.g lt in let k = is_named n made in omega (arith, le, k)
      | inr ge ↦ absurd (let zero_made = none n.g ge in omega (arith, made, zero_made))
    ]

    cached_below : (a i : ℕ) → a < l.procs → i < slots → all_objects p + (slots * a + i) < bound
    cached_below a i lt small =
        let le : slots * suc a ≤ slots * l.procs = mul-le-mul_left slots (let up : suc a ≤ l.procs = omega (arith, lt) in up) in
        let more : slots * suc a ≡ slots * a + slots = omega arith in
        omega (arith, le, more, small)

    -- and one number is that of one slot
    module _ (q i x j v : ℕ) (few_i : i < slots) (few_j : j < slots) where
      same : Has q i v → Has x j v → SameSlot q i x j
      same (stands_there n made here is) (stands_there m also there too) =
          let y = one (objects_of p) n.g n.k m.g m.k (is_named n made) (is_named m also) (sym is ∙ too) in
          let name : n ≡ m = λ r. record { g = y.kind r; k = y.thing r } in
          apart q i x j few_i few_j n made here (subst (λ (k : Name). IsPlacedAt w k (1024 * x + j * words)) (sym name) there)
      same (stands_there n made here is) (is_cached b s lt owner too) = absurd (let less = below_all n made in omega (arith, less, is, too))
      same (is_cached a s lt owner is) (stands_there m also there too) = absurd (let less = below_all m also in omega (arith, less, is, too))
      same (is_cached a s lt owner is) (is_cached b r less own too) =
          let rows : slots * a + i ≡ slots * b + j = omega (arith, is, too) in
          let y = digits slots a i b j few_i few_j rows in
          let both : s.h.owner ≡ r.h.owner = owner ∙ (ap (λ (n : ℕ). n + 1) y.digit ∙ sym own) in
          let some : s.h.owner ≢ 0 = λ zero_owner. absurd (omega (arith, zero_owner, owner)) in
          record { page = stands.spans.owned q x s.h r.h s.there r.there some both (s.class_is ∙ sym r.class_is) (s.noscan_is ∙ sym r.noscan_is); slot = y.left }

    -- There is no room.

    module _ (seat : ℕ) (room : NoRoomFor (arena_of p.shapes l) seat w (sought_for plenty.shape)) where
      each_span : (q : ℕ) → q < l.pages → IsSpanAt q
      each_span q lt =
          let pages = one_page in
          let t = room.run q (omega (arith, lt, pages)) in
          let low = t.lies.0 in let high = t.lies.1 in
          let here : t.page ≡ q = omega (arith, low, high, pages) in
          taken_page q (subst (λ (n : ℕ). page_of (w (Cell.Page n)) ≢ Free) here t.taken.not_free)

      not_large : (span_for (sought_for plenty.shape)).class ≢ SizeClass.Large
      not_large large = let no : class ≡ SizeClass.Large = sym span_class ∙ large in cc

      many : (h : SpanHead) → h.class ≡ class → slot_count h ≡ slots
      many h is = ap (λ (c : SizeClass). slot_count (record h { class = c })) is

      long : (h : SpanHead) → h.class ≡ class → slot_size h ≡ words
      long h is = ap (λ (c : SizeClass). slot_size (record h { class = c })) is

      -- a slot that is taken is an object's
      of_object : (q i : ℕ) → row_bit (alloc_words w) (1024 * q + i * words) ≡ 1 → (v : ℕ) × (v < bound) × Has q i v
      of_object q i set =
          let x = stands.objects.named (1024 * q + i * words) set in
          let below = below_all x.0 x.1 in
          (total (objects_of p) x.0.g + x.0.k, omega (arith, below), stands_there x.0 x.1 x.2 refl)

      each : (q i : ℕ) → q < l.pages → i < slots → (v : ℕ) × (v < bound) × Has q i v
      each q i lt small = go (room.slots q s.h (record { small = not_large; head = s.there; class = s.class_is ∙ sym span_class; noscan = s.noscan_is ∙ sym span_noscan })) where
        s : IsSpanAt q
        s = each_span q lt

        go : IsAnothers (arena_of p.shapes l) seat s.h ⊎ IsFull (alloc_words w) q s.h → (v : ℕ) × (v < bound) × Has q i v
        go (inl other) = (all_objects p + (slots * other.who + i), cached_below other.who i other.seat small, is_cached other.who s other.seat other.owner refl)
        go (inr full) =
            let count = many s.h s.class_is in
            of_object q i (subst (λ (n : ℕ). row_bit (alloc_words w) (1024 * q + i * n) ≡ 1) (long s.h s.class_is) (full i (omega (arith, small, count))))

      own_numbers : HaveTheirOwn l.pages slots bound Has
      own_numbers = record {
        some = lie.some;
        each = each;
        row = λ q i x j v few_i few_j one other. (same q i x j v few_i few_j one other).page;
        column = λ q i x j v few_i few_j one other. (same q i x j v few_i few_j one other).slot;
      }

      pub no_room_is_none : LaysOut p l → ⊥
      no_room_is_none laid =
          let le : l.pages * slots ≤ bound = no_more_pairs l.pages slots bound Has own_numbers in
          let pages : l.pages * slots ≡ p.settings.arena * slots = ap (λ (n : ℕ). n * slots) laid.pages_are in
          let procs : slots * l.procs ≡ p.settings.procs * slots = mul_comm slots l.procs ∙ ap (λ (n : ℕ). n * slots) laid.procs_are in
          let enough = plenty.enough in
          omega (arith, le, pages, procs, enough)
