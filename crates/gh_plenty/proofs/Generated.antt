-- Generated scripts have plenty: at most 200,000 objects of three words, and 1,024 pages of 341 slots each.
use Rattle.std.proofs.Common.{◌≡◌, ℕ, ◌*◌, ◌/◌, ◌<◌, ◌≤◌, refl, sym, subst, arith}
use Rattle.gh_plenty.proofs.Vocabulary.{all_objects, class_number, HasPlenty, is_new_statement, objects_of, page_counts, pages_of, size_class_of, slot_of, slot_sizes, slots_of, Small, statements_of, total}
use Rattle.gh_script.specs.Generated.{generated_program, HasItsSize, node_shape}
use Rattle.gh_plenty.proofs.Counts.{count-le}

-- the class of a node
node_class : size_class_of node_shape.words ≡ Small 2
unfolding class_number slot_sizes
node_class = refl

node_page : pages_of 2 ≡ 1
unfolding pages_of page_counts
node_page = refl

node_slots : slots_of 2 ≡ 341
unfolding slots_of slot_of slot_sizes pages_of page_counts
node_slots = refl

module _ (seed size : ℕ) (small : size ≤ 200000) (has : HasItsSize size (generated_program seed size)) where
  few : (g : ℕ) → g < 4 → objects_of (generated_program seed size) g ≤ size / 4
  few g lt = let le = count-le is_new_statement (statements_of (generated_program seed size) g) in let is = has.statements g lt in omega (arith, le, is)

  in_all : all_objects (generated_program seed size) ≤ 4 * (size / 4)
  in_all =
      let a = few 0 (omega arith) in let b = few 1 (omega arith) in let c = few 2 (omega arith) in let d = few 3 (omega arith) in
      subst (λ (n : ℕ). total (objects_of (generated_program seed size)) n ≤ 4 * (size / 4)) (sym has.goroutines) (omega (arith, a, b, c, d))

  pub has_plenty : HasPlenty (generated_program seed size)
  unfolding generated_program
  has_plenty = record {
    shape = node_shape;
    type = refl;
    class = 2;
    small = node_class;
    one_page = node_page;
    enough = let all = in_all in let slots = node_slots in omega (arith, all, slots, small);
  }
