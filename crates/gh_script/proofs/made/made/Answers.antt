use Rattle.std.proofs.Common.{sym, ◌∙◌, map, arith}
use Rattle.gh_script.proofs.Vocabulary.{length-map}
use Rattle.gh_script.proofs.Asking.{is_made, made_formed, stops_goroutines, stops_missing, stops_settings, stops_types}
use Rattle.gh_script.proofs.made.made.Goals as goal

pub returns-then-not-are_within : goal.returns-then-not-are_within
returns-then-not-are_within c = stops_settings c.args.settings (map (λ t. t.now) c.args.types.now) c.args.wishes.now c.refusal.result (sym c.are_within.ensures ∙ c.if-not-are_within.true) c.refusal.ensures

pub returns-in-Err : goal.returns-in-Err
returns-in-Err c = stops_types c.args.settings (map (λ t. t.now) c.args.types.now) c.args.wishes.now c.in-Err.e (sym c.are_within.ensures ∙ c.if-not-are_within.false) c.in-Err.ensures.cause

pub returns-in-Err-asking_all : goal.returns-in-Err-asking_all
returns-in-Err-asking_all c = stops_goroutines c.args.settings (map (λ t. t.now) c.args.types.now) c.args.wishes.now c.in-Err-asking_all.e _ (sym c.are_within.ensures ∙ c.if-not-are_within.false) c.in-Ok.ensures.cause (sym (length-map c.args.types.now (λ t. t.now))) c.in-Err-asking_all.ensures.cause

pub returns-then-is_empty : goal.returns-then-is_empty
returns-then-is_empty c =
    stops_missing c.args.settings (map (λ t. t.now) c.args.types.now) c.args.wishes.now c.in-Ok-asking_all.goroutines.items c.refusal-then-is_empty.result _ _ (sym c.are_within.ensures ∙ c.if-not-are_within.false) c.in-Ok.ensures.cause
    (sym (length-map c.args.types.now (λ t. t.now))) c.in-Ok-asking_all.ensures.cause c.in-Ok-asking_all.ensures.goroutines (omega arith) (sym c.is_empty.ensures ∙ c.if-is_empty.true) c.refusal-then-is_empty.ensures

pub invariant_of-result : goal.invariant_of-result
invariant_of-result c =
    made_formed c.args.settings (map (λ t. t.now) c.args.types.now) c.args.wishes.now c.in-Ok.rows.items c.in-Ok-asking_all.goroutines.items _ _ (sym c.are_within.ensures ∙ c.if-not-are_within.false) c.in-Ok.ensures.cause
    (sym (length-map c.args.types.now (λ t. t.now))) c.in-Ok-asking_all.ensures.cause c.in-Ok.ensures.shapes c.in-Ok-asking_all.ensures.goroutines (omega arith) (sym c.is_empty.ensures ∙ c.if-is_empty.false)

pub returns : goal.returns
returns c =
    is_made c.args.settings (map (λ t. t.now) c.args.types.now) c.args.wishes.now c.in-Ok.rows.items c.in-Ok-asking_all.goroutines.items _ _ (sym c.are_within.ensures ∙ c.if-not-are_within.false) c.in-Ok.ensures.cause
    (sym (length-map c.args.types.now (λ t. t.now))) c.in-Ok-asking_all.ensures.cause c.in-Ok.ensures.shapes c.in-Ok-asking_all.ensures.goroutines (omega arith) (sym c.is_empty.ensures ∙ c.if-is_empty.false)
