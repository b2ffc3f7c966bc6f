-- What calls may answer.
use Rattle.gh_shared.specs.Vocabulary.{Answer}
use Rattle.gh_base.specs.declared.value.Fault.{Fault}
use Rattle.gh_base.specs.declared.value.Answer.TheVariants.{Done, Full, Int, Nil, Ref}
use Rattle.gh_base.specs.declared.value.Fault.TheVariants.{Field, Kind, NilBase}

-- a new object, or that there is no room for one
abbrev pub IsNameOrFull : Answer → Type 0
IsNameOrFull (Ref name) = Unit {0}
IsNameOrFull Full = Unit {0}
IsNameOrFull _ = ⊥

-- what a global held
abbrev pub IsNilOrName : Answer → Type 0
IsNilOrName Nil = Unit {0}
IsNilOrName (Ref name) = Unit {0}
IsNilOrName _ = ⊥

-- why a field was not loaded
abbrev pub IsNoField : Fault → Type 0
IsNoField NilBase = Unit {0}
IsNoField Field = Unit {0}
IsNoField Kind = ⊥

-- what a field held, or why it was not loaded
abbrev pub IsValueOrNoField : Answer → Type 0
IsValueOrNoField Nil = Unit {0}
IsValueOrNoField (Int n) = Unit {0}
IsValueOrNoField (Ref name) = Unit {0}
IsValueOrNoField (Answer.Fault cause) = IsNoField cause
IsValueOrNoField _ = ⊥

-- it was done, or why not
abbrev pub IsDoneOrFault : Answer → Type 0
IsDoneOrFault Done = Unit {0}
IsDoneOrFault (Answer.Fault cause) = Unit {0}
IsDoneOrFault _ = ⊥

-- it was done, or the value is of the wrong kind
abbrev pub IsDoneOrKind : Answer → Type 0
IsDoneOrKind Done = Unit {0}
IsDoneOrKind (Answer.Fault Fault.Kind) = Unit {0}
IsDoneOrKind _ = ⊥
