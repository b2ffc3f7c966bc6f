use Rattle.std.proofs.Common.{◌≡◌, ◌∙◌, ◌<◌, ◌∷◌, ◌++◌, [], ℕ, Bool, false, ap, arith, length, get_or, refl, sym, sum_by}
use Rattle.std.proofs.lemmas.List.{length-append}
use Rattle.std.proofs.lemmas.List.Sums.{sum_by-append, sum_by_more, sum_by-take-le}
use Rattle.gh_actor.proofs.Vocabulary.{wishes_in, wishes_of}
use Rattle.gh_script.specs.Program.{no_goroutine}
use Rattle.gh_actor.proofs.EachMore.{each_more}
use Rattle.gh_actor.proofs.counts.Counts.new.Goals as goal

pub loop-g-preserved : goal.loop-g-preserved
loop-g-preserved c =
    let p = c.args.script.now in
    let is = c.loop-g.invariant in
    let left = c.push_reserved.ensures.items in
    let over = c.push_reserved-in-loop-g.ensures.items in
    let low : c.loop-g.g < length p.goroutines = omega (arith, c.loop-g-test.true, is.many) in
    let long = ap length left in
    let longer = ap length over in
    let both = length-append c.loop-g.left.items (c.wishes_of.result ∷ []) in
    let all = length-append c.loop-g.over.items (false ∷ []) in
    let same = c.push_reserved.ensures.capacity in
    let too = c.push_reserved-in-loop-g.ensures.capacity in
    let sum = sum_by-append (λ (n : ℕ). n) c.loop-g.left.items (c.wishes_of.result ∷ []) in
    let here : sum_by (λ (n : ℕ). n) c.push_reserved.new.self.items ≡ sum_by (λ (n : ℕ). n) (c.loop-g.left.items ++ c.wishes_of.result ∷ []) = ap (sum_by (λ (n : ℕ). n)) left in
    let one : sum_by (λ (n : ℕ). n) (c.wishes_of.result ∷ []) ≡ c.wishes_of.result = omega arith in
    let more = sum_by_more wishes_in p.goroutines c.loop-g.g no_goroutine low in
    let that : c.wishes_of.result ≡ wishes_in (get_or p.goroutines c.loop-g.g no_goroutine) = c.wishes_of.ensures in
    record {
      many = is.many;
      within = omega (arith, c.loop-g-test.true);
      room_left = omega (arith, same, is.room_left);
      room_over = omega (arith, too, is.room_over);
      many_left = omega (arith, long, both, is.many_left);
      many_over = omega (arith, longer, all, is.many_over);
      left = rw left (each_more (λ (g n : ℕ). n ≡ wishes_of p g) c.loop-g.left.items c.wishes_of.result is.left (c.wishes_of.ensures ∙ ap (wishes_of p) (sym is.many_left)));
      over = rw over (each_more (λ (g : ℕ) (b : Bool). b ≡ false) c.loop-g.over.items false is.over refl);
      sum = omega (arith, here, sum, one, more, that, is.sum);
    }

pub returns : goal.returns
returns c =
    let p = c.args.script.now in
    let is = c.loop-g.invariant in
    let few = sum_by-take-le wishes_in p.goroutines c.loop-g.g in
    let all = c.most_cycles.ensures in
    record {
      procs_are = ap (λ s. s.procs) c.settings.ensures;
      many_left = omega (arith, is.many_left, is.many, is.within, c.loop-g-test.false);
      many_over = omega (arith, is.many_over, is.many, is.within, c.loop-g-test.false);
      each_left = is.left;
      each_over = is.over;
      has_gone = refl;
      few = omega (arith, is.sum, few, all.is, all.few);
    }
