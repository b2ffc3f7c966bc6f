-- Giving a span back is a move that the rights of its seat allow, on a word that there is, and what must be known for it lasts.
use Rattle.std.proofs.Common.{true, refl, ap, sym, subst, ◌∙◌, None, arith}
use Rattle.gh_central.proofs.Vocabulary.{Ask, Cell, cell_of, Disown, EachRightFollows, effect, head_word, InRange, May, Publish, SpanHead, view, WritesHead}
use Rattle.gh_central.specs.declared.give.GiveStage.{GiveStage}
use Rattle.gh_central.specs.GiveBack.{asks_at}
use Rattle.gh_central.specs.GiveFacts.{GivesBack, GivesByItsRights, GivesLarge, Lasts, Within, WritesHeads}

pub record Known : Type 0 where
  pub follow : EachRightFollows

gives : Known → GivesBack
gives k z a s held g good right x = record {
  move = Disown g.page x.h;
  may = may;
  words_are = ap (λ (h : SpanHead). effect s.words (Ask.Store (Cell.Page g.page) (head_word h))) x.same ∙ ap (λ (q : GiveStage). effect s.words (asks_at g q)) (sym x.stage);
  after = ((refl, refl), (k.follow z a s true held None right).given g.page x.h);
} where
  may : May z a (view s) (Disown g.page x.h)
  may = (record { locked = right.locked; laying = right.laying; freeing = right.freeing; head = x.head }, x.held)

gives_large : Known → GivesLarge
gives_large k z a s l held y g good right x large full = record {
  move = Publish g.page x.h;
  may = (x.held, x.head, large, full);
  words_are = ap (λ (h : SpanHead). effect s.words (Ask.Store (Cell.Page g.page) (head_word h))) x.same ∙ ap (λ (q : GiveStage). effect s.words (asks_at g q)) (sym x.stage);
  after = ((refl, refl), (k.follow z a s l held y right).published g.page x.h);
}

within : Within
within z a v g good x = let span = good.spans g.page x.h x.head in subst (λ (q : GiveStage). InRange z.layout (cell_of (asks_at g q))) (sym x.stage) (omega (arith, span.within, span.fits.some))

heads : WritesHeads
heads z a v g x = subst (λ (q : GiveStage). WritesHead v.page (asks_at g q)) (sym x.stage) (x.h, x.head)

lasts : Lasts
lasts z a v w g o x = record {
  stage = x.stage;
  h = x.h;
  head = o.heads g.page x.h x.held x.head;
  same = x.same;
  held = o.holds g.page ∙ x.held;
  number = x.number ∙ sym o.generation;
}

pub gives_by_its_rights : Known → GivesByItsRights
gives_by_its_rights k = record { gives = gives k; gives_large = gives_large k; within = within; heads = heads; lasts = lasts }
