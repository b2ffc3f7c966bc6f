-- One entry more, whose step leaves to each other seat what the moves of others do: what is known of all others lasts.
use Rattle.std.proofs.Common.{◌≡◌, ◌≢◌, ◌↔◌, ℕ, ◌<◌, ◌≤◌, ◌==◌, ◌⊎◌, inl, inr, Bool, true, false, refl, sym, ap, subst, ◌∙◌, arith, List, ◌∷◌, ◌++◌, Some, None}
use Rattle.gh_marked.proofs.Vocabulary.{Answer, answers_stay, Arena, arena, by, Cell, deeds, END, ended_in, Entry, ever, given_stay, Good, Heap, IsAsItShould, IsBounded, IsHeapOf, IsOf, Known, nat_tests, Op, option_to_list, Others, own_stay, Processor, processor_at, Right, Setup, state_stays, view, words}

same_seat : (a b : ℕ) → (a == b) ≡ true → a ≡ b
same_seat a b x = grind (arith, nat_tests)

module _ (setup : Setup) (known : Known) where
  abbrev z : Arena
  z = arena setup

  module _ (e : Entry Op) (es : List (Entry Op)) (h : Heap) (of : IsHeapOf setup es h) (good : Good z (view h)) (t : Heap) where
    abbrev a : ℕ
    a = e.actor

    -- what has to be said of the entry's own actor, and of the words
    pub record OwnSide : Type 0 where
      pub words_are : t.words ≡ words setup (e ∷ es)
      pub ever_is : t.ever ≡ ever setup (e ∷ es)
      pub bounded : IsBounded z t.ever
      pub stacks : (g : ℕ) → (t.words (Cell.Scanned g) ≡ END) ↔ (t.ever.ended g ≡ true)
      pub others_stacks : (b g : ℕ) → b ≢ a → IsOf z b g → t.words (Cell.Scanned g) ≡ h.words (Cell.Scanned g)
      pub globals : (i : ℕ) → setup.layout.globals ≤ i → t.words (Cell.Global i) ≡ 0
      pub own : a < setup.layout.procs → IsAsItShould setup (e ∷ es) t a (processor_at setup (e ∷ es) a)
      pub right : setup.layout.procs ≤ a → Right a (view t) false (λ p. false) None

    module _ (others_leave : (b : ℕ) → b ≢ a → Others z b (view h) (view t)) (side : OwnSide) where
      apart : (b : ℕ) → (a == b) ≡ false → b ≢ a
      apart b x y = grind (arith, nat_tests)

      module _ (b : ℕ) (x : (a == b) ≡ false) (p : Processor) (is : IsAsItShould setup es h b p) where
        o : Others z b (view h) (view t)
        o = others_leave b (apart b x)

        ended_was : (g : ℕ) → IsOf z b g → ((deeds setup.layout setup.shapes).unacted p ≡ Some (Op.End g)) ⊎ (t.ever.ended g ≡ true) → ((deeds setup.layout setup.shapes).unacted p ≡ Some (Op.End g)) ⊎ (h.ever.ended g ≡ true)
        ended_was g its (inl y) = inl y
        ended_was g its (inr y) = inr (sym (o.ends g its) ∙ y)

        ended_is : (g : ℕ) → IsOf z b g → ((deeds setup.layout setup.shapes).unacted p ≡ Some (Op.End g)) ⊎ (h.ever.ended g ≡ true) → ((deeds setup.layout setup.shapes).unacted p ≡ Some (Op.End g)) ⊎ (t.ever.ended g ≡ true)
        ended_is g its (inl y) = inl y
        ended_is g its (inr y) = inr (o.ends g its ∙ y)

        own_same : (g : ℕ) → ended_in (by b (e ∷ es)) g ≡ ended_in (by b es) g
        own_same g = ap (λ (ys : List (Entry Op)). ended_in ys g) (own_stay setup e es b x)

        another : IsAsItShould setup (e ∷ es) t b p
        another = record {
          sound = is.sound;
          pending = is.pending;
          fine = known.runs.lasts z b (view h) (view t) p is.pending good o is.fine;
          answers = answers_stay setup e es b x ∙ (is.answers ∙ ap (λ (y : List Answer). option_to_list is.pending ++ y) (sym (given_stay setup e es b x)));
          notes = λ g its. is.notes g its ∙ sym (side.others_stacks b g (apart b x) its);
          ended = λ g its y. own_same g ∙ is.ended g its (ended_was g its y);
          ends = λ g its y. ended_is g its (is.ends g its (sym (own_same g) ∙ y));
          left = λ last g its. o.ends g its ∙ is.left last g its;
        }

      processors : (b : ℕ) → b < setup.layout.procs → IsAsItShould setup (e ∷ es) t b (processor_at setup (e ∷ es) b)
      processors b lt = go (a == b) refl where
        go : (x : Bool) → (a == b) ≡ x → IsAsItShould setup (e ∷ es) t b (processor_at setup (e ∷ es) b)
        go true x = let same : a ≡ b = same_seat a b x in subst (λ (y : ℕ). IsAsItShould setup (e ∷ es) t y (processor_at setup (e ∷ es) y)) same (side.own (subst (λ (y : ℕ). y < setup.layout.procs) (sym same) lt))
        go false x = subst (λ (p : Processor). IsAsItShould setup (e ∷ es) t b p) (sym (state_stays setup e es b x)) (another b x (processor_at setup es b) (of.processors b lt))

      others : (b : ℕ) → setup.layout.procs ≤ b → Right b (view t) false (λ p. false) None
      others b ge = go (a == b) refl where
        go : (x : Bool) → (a == b) ≡ x → Right b (view t) false (λ p. false) None
        go true x = let same : a ≡ b = same_seat a b x in subst (λ (y : ℕ). Right y (view t) false (λ p. false) None) same (side.right (subst (λ (y : ℕ). setup.layout.procs ≤ y) (sym same) ge))
        go false x = (known.last z b (view h) (view t) (others_leave b (apart b x))).right false (λ p. false) None (of.others b ge)

      pub moves_on : IsHeapOf setup (e ∷ es) t
      moves_on = record {
        words_are = side.words_are;
        ever_is = side.ever_is;
        bounded = side.bounded;
        processors = processors;
        others = others;
        stacks = side.stacks;
        globals = side.globals;
      }
