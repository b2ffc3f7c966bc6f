use Rattle.std.proofs.Common.{refl, ap, sym, ◌∙◌, subst}
use Rattle.gh_shared.proofs.Vocabulary.{Answer, birth_cell, Fault, IsAtRest, Layout}
use Rattle.gh_poll.specs.Registers.{IsNear}
use Rattle.gh_shared.proofs.Loaded.{asks_birth, asks_bits, asks_field, asks_none, asks_page, ended_so, may_load, no_object, processor_is, ran_birth, ran_int, ran_nil, ran_none, ran_page}
use Rattle.gh_shared.proofs.Midway.{may_first, may_next}
use Rattle.gh_shared.proofs.heap.Heap.load_at_once.Goals as goal

pub load_cell-requires-clause-may : goal.load_cell-requires-clause-may
load_cell-requires-clause-may c =
    let y = processor_is c.args.machine.now.actor c.requires.processor in
    let x = may_load c.args.g c.args.d c.args.b c.args.k c.args.actor c.args.seat.now.me c.args.machine.now y c.requires.table.1 c.args.self.now.laid.layout c.requires.laid c.requires.shapes c.requires.state c.requires.may c.requires.carries c.requires.allowed in
    may_first (asks_none x (no_object _ _ (c.object.ensures.is y.0 y.1) c.in_default.not-Some)) refl

pub load_cell-page-requires-clause-may : goal.load_cell-page-requires-clause-may
load_cell-page-requires-clause-may c =
    let y = processor_is c.args.machine.now.actor c.requires.processor in
    let x = may_load c.args.g c.args.d c.args.b c.args.k c.args.actor c.args.seat.now.me c.args.machine.now y c.requires.table.1 c.args.self.now.laid.layout c.requires.laid c.requires.shapes c.requires.state c.requires.may c.requires.carries c.requires.allowed in
    may_first (asks_page x (sym (c.object.ensures.is y.0 y.1) ∙ c.in-Some.is) c.page_cell-page_at.ensures.is) refl

pub load_cell-bits-requires-clause-may : goal.load_cell-bits-requires-clause-may
load_cell-bits-requires-clause-may c =
    let y = processor_is c.args.machine.now.actor c.requires.processor in
    let x = may_load c.args.g c.args.d c.args.b c.args.k c.args.actor c.args.seat.now.me c.args.machine.now y c.requires.table.1 c.args.self.now.laid.layout c.requires.laid c.requires.shapes c.requires.state c.requires.may c.requires.carries c.requires.allowed in
    let page = asks_page x (sym (c.object.ensures.is y.0 y.1) ∙ c.in-Some.is) c.page_cell-page_at.ensures.is in
    may_next (asks_bits x page c.load_cell-page.ensures.tells (sym c.has_field.ensures.is ∙ c.if-not-has_field.false) c.bits_cell-bits_at.ensures.is) refl

pub load_cell-word-requires-clause-may : goal.load_cell-word-requires-clause-may
load_cell-word-requires-clause-may c =
    let y = processor_is c.args.machine.now.actor c.requires.processor in
    let x = may_load c.args.g c.args.d c.args.b c.args.k c.args.actor c.args.seat.now.me c.args.machine.now y c.requires.table.1 c.args.self.now.laid.layout c.requires.laid c.requires.shapes c.requires.state c.requires.may c.requires.carries c.requires.allowed in
    let page = asks_page x (sym (c.object.ensures.is y.0 y.1) ∙ c.in-Some.is) c.page_cell-page_at.ensures.is in
    let bits = asks_bits x page c.load_cell-page.ensures.tells (sym c.has_field.ensures.is ∙ c.if-not-has_field.false) c.bits_cell-bits_at.ensures.is in
    may_next (asks_field x bits c.load_cell-bits.ensures.tells c.is_pointer_by-pointer.ensures c.field_cell-field_at.ensures.is) refl

pub load_cell-birth-requires-clause-may : goal.load_cell-birth-requires-clause-may
load_cell-birth-requires-clause-may c =
    let y = processor_is c.args.machine.now.actor c.requires.processor in
    let x = may_load c.args.g c.args.d c.args.b c.args.k c.args.actor c.args.seat.now.me c.args.machine.now y c.requires.table.1 c.args.self.now.laid.layout c.requires.laid c.requires.shapes c.requires.state c.requires.may c.requires.carries c.requires.allowed in
    let page = asks_page x (sym (c.object.ensures.is y.0 y.1) ∙ c.in-Some.is) c.page_cell-page_at.ensures.is in
    let bits = asks_bits x page c.load_cell-page.ensures.tells (sym c.has_field.ensures.is ∙ c.if-not-has_field.false) c.bits_cell-bits_at.ensures.is in
    let field = asks_field x bits c.load_cell-bits.ensures.tells c.is_pointer_by-pointer.ensures c.field_cell-field_at.ensures.is in
    may_next (asks_birth x field c.load_cell-word.ensures.tells c.value_of-value.ensures.is c.in-Ref.is (c.birth_cell-birth_at.ensures.is ∙ ap (birth_cell c.args.self.now.layout) c.saturating_sub.ensures)) refl

pub returns-in_default-clause-ran : goal.returns-in_default-clause-ran
returns-in_default-clause-ran c =
    let y = processor_is c.args.machine.now.actor c.requires.processor in
    let x = may_load c.args.g c.args.d c.args.b c.args.k c.args.actor c.args.seat.now.me c.args.machine.now y c.requires.table.1 c.args.self.now.laid.layout c.requires.laid c.requires.shapes c.requires.state c.requires.may c.requires.carries c.requires.allowed in
    ended_so x c.requires.laid y.1 (c.refused.ensures.is y.0 (Answer.Fault Fault.NilBase) y.1) (ran_none x (asks_none x (no_object _ _ (c.object.ensures.is y.0 y.1) c.in_default.not-Some)) c.load_cell.ensures.tells refl)

pub returns-then-not-has_field-clause-ran : goal.returns-then-not-has_field-clause-ran
returns-then-not-has_field-clause-ran c =
    let y = processor_is c.args.machine.now.actor c.requires.processor in
    let x = may_load c.args.g c.args.d c.args.b c.args.k c.args.actor c.args.seat.now.me c.args.machine.now y c.requires.table.1 c.args.self.now.laid.layout c.requires.laid c.requires.shapes c.requires.state c.requires.may c.requires.carries c.requires.allowed in
    ended_so x c.requires.laid y.1 (c.refused-then-not-has_field.ensures.is y.0 (Answer.Fault Fault.Field) y.1) (ran_page x (asks_page x (sym (c.object.ensures.is y.0 y.1) ∙ c.in-Some.is) c.page_cell-page_at.ensures.is) c.load_cell-page.ensures.tells (sym c.has_field.ensures.is ∙ c.if-not-has_field.true) refl)

pub returns-in-Nil-clause-ran : goal.returns-in-Nil-clause-ran
returns-in-Nil-clause-ran c =
    let y = processor_is c.args.machine.now.actor c.requires.processor in
    let x = may_load c.args.g c.args.d c.args.b c.args.k c.args.actor c.args.seat.now.me c.args.machine.now y c.requires.table.1 c.args.self.now.laid.layout c.requires.laid c.requires.shapes c.requires.state c.requires.may c.requires.carries c.requires.allowed in
    let page = asks_page x (sym (c.object.ensures.is y.0 y.1) ∙ c.in-Some.is) c.page_cell-page_at.ensures.is in
    let bits = asks_bits x page c.load_cell-page.ensures.tells (sym c.has_field.ensures.is ∙ c.if-not-has_field.false) c.bits_cell-bits_at.ensures.is in
    let field = asks_field x bits c.load_cell-bits.ensures.tells c.is_pointer_by-pointer.ensures c.field_cell-field_at.ensures.is in
    ended_so x c.requires.laid y.1 (c.loaded.ensures.is y.0 Answer.Nil y.1) (ran_nil x field c.load_cell-word.ensures.tells c.value_of-value.ensures.is c.in-Nil.is refl)

pub returns-in-Int-clause-ran : goal.returns-in-Int-clause-ran
returns-in-Int-clause-ran c =
    let y = processor_is c.args.machine.now.actor c.requires.processor in
    let x = may_load c.args.g c.args.d c.args.b c.args.k c.args.actor c.args.seat.now.me c.args.machine.now y c.requires.table.1 c.args.self.now.laid.layout c.requires.laid c.requires.shapes c.requires.state c.requires.may c.requires.carries c.requires.allowed in
    let page = asks_page x (sym (c.object.ensures.is y.0 y.1) ∙ c.in-Some.is) c.page_cell-page_at.ensures.is in
    let bits = asks_bits x page c.load_cell-page.ensures.tells (sym c.has_field.ensures.is ∙ c.if-not-has_field.false) c.bits_cell-bits_at.ensures.is in
    let field = asks_field x bits c.load_cell-bits.ensures.tells c.is_pointer_by-pointer.ensures c.field_cell-field_at.ensures.is in
    ended_so x c.requires.laid y.1 (c.loaded.ensures.is y.0 (Answer.Int c.in-Int.number) y.1) (ran_int x field c.load_cell-word.ensures.tells c.value_of-value.ensures.is c.in-Int.is refl)

pub returns-in-Ref-clause-ran : goal.returns-in-Ref-clause-ran
returns-in-Ref-clause-ran c =
    let y = processor_is c.args.machine.now.actor c.requires.processor in
    let x = may_load c.args.g c.args.d c.args.b c.args.k c.args.actor c.args.seat.now.me c.args.machine.now y c.requires.table.1 c.args.self.now.laid.layout c.requires.laid c.requires.shapes c.requires.state c.requires.may c.requires.carries c.requires.allowed in
    let page = asks_page x (sym (c.object.ensures.is y.0 y.1) ∙ c.in-Some.is) c.page_cell-page_at.ensures.is in
    let bits = asks_bits x page c.load_cell-page.ensures.tells (sym c.has_field.ensures.is ∙ c.if-not-has_field.false) c.bits_cell-bits_at.ensures.is in
    let field = asks_field x bits c.load_cell-bits.ensures.tells c.is_pointer_by-pointer.ensures c.field_cell-field_at.ensures.is in
    let birth = asks_birth x field c.load_cell-word.ensures.tells c.value_of-value.ensures.is c.in-Ref.is (c.birth_cell-birth_at.ensures.is ∙ ap (birth_cell c.args.self.now.layout) c.saturating_sub.ensures) in
    ended_so x c.requires.laid y.1 (c.loaded.ensures.is y.0 (Answer.Ref c.unpack.result) y.1) (ran_birth x c.value_of-value.result birth c.load_cell-birth.ensures.tells c.unpack.ensures.says refl)

pub object-requires-clause-register : goal.object-requires-clause-register
object-requires-clause-register c =
    let y = processor_is c.args.machine.now.actor c.requires.processor in
    let x = may_load c.args.g c.args.d c.args.b c.args.k c.args.actor c.args.seat.now.me c.args.machine.now y c.requires.table.1 c.args.self.now.laid.layout c.requires.laid c.requires.shapes c.requires.state c.requires.may c.requires.carries c.requires.allowed in
    (x.start.may.sound.0.0, x.start.may.sound.1)

pub refused-requires : goal.refused-requires
refused-requires c =
    let y = processor_is c.args.machine.now.actor c.requires.processor in
    let x = may_load c.args.g c.args.d c.args.b c.args.k c.args.actor c.args.seat.now.me c.args.machine.now y c.requires.table.1 c.args.self.now.laid.layout c.requires.laid c.requires.shapes c.requires.state c.requires.may c.requires.carries c.requires.allowed in
    subst IsAtRest (sym y.1) (x.start.may.idle, x.start.may.there)

pub loaded-requires-clause-rests : goal.loaded-requires-clause-rests
loaded-requires-clause-rests c =
    let y = processor_is c.args.machine.now.actor c.requires.processor in
    let x = may_load c.args.g c.args.d c.args.b c.args.k c.args.actor c.args.seat.now.me c.args.machine.now y c.requires.table.1 c.args.self.now.laid.layout c.requires.laid c.requires.shapes c.requires.state c.requires.may c.requires.carries c.requires.allowed in
    subst IsAtRest (sym y.1) (x.start.may.idle, x.start.may.there)

pub loaded-requires-clause-register : goal.loaded-requires-clause-register
loaded-requires-clause-register c =
    let y = processor_is c.args.machine.now.actor c.requires.processor in
    let x = may_load c.args.g c.args.d c.args.b c.args.k c.args.actor c.args.seat.now.me c.args.machine.now y c.requires.table.1 c.args.self.now.laid.layout c.requires.laid c.requires.shapes c.requires.state c.requires.may c.requires.carries c.requires.allowed in
    x.start.may.sound.0

pub loaded-requires-clause-near : goal.loaded-requires-clause-near
loaded-requires-clause-near c =
    let y = processor_is c.args.machine.now.actor c.requires.processor in
    let x = may_load c.args.g c.args.d c.args.b c.args.k c.args.actor c.args.seat.now.me c.args.machine.now y c.requires.table.1 c.args.self.now.laid.layout c.requires.laid c.requires.shapes c.requires.state c.requires.may c.requires.carries c.requires.allowed in
    subst (λ (l : Layout). IsNear l.pages c.value_of-value.result) (x.laid ∙ sym c.requires.laid) c.value_of-value.ensures.near
