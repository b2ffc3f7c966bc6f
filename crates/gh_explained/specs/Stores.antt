-- What a load answers, by the stores that acted before it, in the heap that never frees: of every list of a heap's steps, the newest first.
use Rattle.std.specs.Prelude.{◌≡◌, ◌≢◌, ℕ, false, List, [], ◌∷◌, ◌++◌, Option, Some}
use Rattle.gh_world.specs.Vocabulary.{Act, acts, Answer, before_step, Entry, Ever, ever_of, Layout, Name, Op, Shape}
use Rattle.gh_model.specs.Ever.{answer_of, answer_of_value, names, next_name}
use Rattle.gh_model.specs.declared.EverValue.{EverValue}

module _ (shapes : List Shape) (l : Layout) where
  -- the heap that never frees after these entries, and the operation that acts with the next
  abbrev pub ever : List (Entry Op) → Ever
  ever es = ever_of shapes l es

  abbrev pub act_of : List (Entry Op) → Entry Op → Option Act
  act_of before e = acts l (before_step shapes l before e) e.found

  -- with this entry goroutine g stores the value in field k of the object
  pub record Stores (g : ℕ) (n : Name) (k : ℕ) (v : EverValue) (before : List (Entry Op)) (e : Entry Op) : Type 0 where
    pub base : ℕ
    pub from : ℕ
    pub acts : act_of before e ≡ Some (record { op = Op.Store g base k from; full = false })
    pub object : names ((ever before).register g base) ≡ Some n
    pub value : (ever before).register g from ≡ v
    pub done : answer_of shapes (ever before) (Op.Store g base k from) ≡ Answer.Done

  -- with this entry goroutine g loads field k of the object
  pub record Loads (g : ℕ) (n : Name) (k : ℕ) (before : List (Entry Op)) (e : Entry Op) : Type 0 where
    pub into : ℕ
    pub base : ℕ
    pub acts : act_of before e ≡ Some (record { op = Op.Load g into base k; full = false })
    pub object : names ((ever before).register g base) ≡ Some n

  -- with this entry goroutine g stores nothing in field k of the object
  abbrev pub Leaves : (g : ℕ) (n : Name) (k : ℕ) (before : List (Entry Op)) → Entry Op → Type 0
  Leaves g n k before e = (base from : ℕ) → act_of before e ≡ Some (record { op = Op.Store g base k from; full = false }) → names ((ever before).register g base) ≢ Some n

  -- with none of these entries any goroutine does
  abbrev pub NoneStores : (n : Name) (k : ℕ) (between before : List (Entry Op)) → Type 0
  NoneStores n k [] before = Unit {0}
  NoneStores n k (e ∷ es) before = NoneStores n k es before × ((h : ℕ) → Leaves h n k (es ++ before) e)

  -- no register of another goroutine names the object
  abbrev pub IsAlone : (g : ℕ) (n : Name) → Ever → Type 0
  IsAlone g n e = (h d : ℕ) → h ≢ g → names (e.register h d) ≢ Some n

  -- so it is at each moment of these entries
  abbrev pub IsAloneAlong : (g : ℕ) (n : Name) (between before : List (Entry Op)) → Type 0
  IsAloneAlong g n [] before = Unit {0}
  IsAloneAlong g n (e ∷ es) before = IsAloneAlong g n es before × IsAlone g n (ever (es ++ before))

  -- goroutine g stores nothing in the field with these entries
  abbrev pub LeavesAlong : (g : ℕ) (n : Name) (k : ℕ) (between before : List (Entry Op)) → Type 0
  LeavesAlong g n k [] before = Unit {0}
  LeavesAlong g n k (e ∷ es) before = LeavesAlong g n k es before × Leaves g n k (es ++ before) e

  -- with this entry goroutine g makes the object
  pub record Makes (g : ℕ) (n : Name) (before : List (Entry Op)) (e : Entry Op) : Type 0 where
    pub into : ℕ
    pub shape : ℕ
    pub acts : act_of before e ≡ Some (record { op = Op.New g into shape; full = false })
    pub named : next_name (ever before) g ≡ n

  -- goroutine g stores the object's name with this entry in no field and no global
  pub record Hides (g : ℕ) (n : Name) (before : List (Entry Op)) (e : Entry Op) : Type 0 where
    pub fields : (base k from : ℕ) → act_of before e ≡ Some (record { op = Op.Store g base k from; full = false }) → names ((ever before).register g from) ≢ Some n
    pub globals : (c from : ℕ) → act_of before e ≡ Some (record { op = Op.SetGlobal g c from; full = false }) → names ((ever before).register g from) ≢ Some n

  abbrev pub HidesAlong : (g : ℕ) (n : Name) (between before : List (Entry Op)) → Type 0
  HidesAlong g n [] before = Unit {0}
  HidesAlong g n (e ∷ es) before = HidesAlong g n es before × Hides g n (es ++ before) e

  -- A store, and a load of the same field of the same object behind it.
  pub record LoadsSeeStores : Type 0 where
    -- the load is answered the value that was stored last, by whichever goroutine
    pub last : (g h : ℕ) (n : Name) (k : ℕ) (v : EverValue) (load : Entry Op) (between : List (Entry Op)) (store : Entry Op) (before : List (Entry Op)) →
        Stores g n k v before store → NoneStores n k between (store ∷ before) → (loads : Loads h n k (between ++ store ∷ before) load) → answer_of shapes (ever (between ++ store ∷ before)) (Op.Load h loads.into loads.base k) ≡ answer_of_value v
    -- none was stored between where no other goroutine has a register that names the object, and this one stores nothing there
    pub alone : (g : ℕ) (n : Name) (k : ℕ) (between before : List (Entry Op)) → IsAloneAlong g n between before → LeavesAlong g n k between before → NoneStores n k between before
    -- and no other goroutine has one as long as the goroutine that made the object stores its name nowhere
    pub hidden : (g : ℕ) (n : Name) (between earlier : List (Entry Op)) (make : Entry Op) (before : List (Entry Op)) → Makes g n before make → HidesAlong g n (between ++ earlier) (make ∷ before) → IsAloneAlong g n between (earlier ++ make ∷ before)

-- Whatever the types' shapes and the heap's layout.
abbrev pub EveryLoadSeesStores : Type 0
EveryLoadSeesStores = (shapes : List Shape) (l : Layout) → LoadsSeeStores shapes l
