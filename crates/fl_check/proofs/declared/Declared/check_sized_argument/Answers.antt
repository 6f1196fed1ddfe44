use Rattle.std.proofs.Common.{List, ℕ, ◌∷◌, [], ◌++◌, ◌∙◌, ap, append_assoc}
use Rattle.fl_interface.specs.Interface.{sized}
use Rattle.fl_check.specs.Known.{stands_for}
use Rattle.fl_check.specs.Views.{list_of, before_of}
use Rattle.fl_parse.specs.Tree.{name_of}
use Rattle.fl_check.proofs.FirstFaults.{tells_here, tells_past, none_past, err_of}
use Rattle.fl_check.proofs.declared.Declared.check_sized_argument.Goals as goal

pub returns-in_err-element-clause-fault : goal.returns-in_err-element-clause-fault
returns-in_err-element-clause-fault c =
    let e = c.in_err-element.field-0.0 in
    err_of c.from_residual.result e _ c.from_residual.ensures.1 (tells_here e _ _ c.in_err-element.ensures.fault)

pub returns-in_err-add_listed_name-clause-fault : goal.returns-in_err-add_listed_name-clause-fault
returns-in_err-add_listed_name-clause-fault c =
    let e = c.in_err-add_listed_name.field-0.0 in
    err_of c.from_residual-in_err-add_listed_name.result e _ c.from_residual-in_err-add_listed_name.ensures.1
    (tells_past e _ _ c.in_ok-element.ensures.sound (tells_here e _ _ c.in_err-add_listed_name.ensures.fault))

pub returns-in_err-add_name-clause-fault : goal.returns-in_err-add_name-clause-fault
returns-in_err-add_name-clause-fault c =
    let e = c.in_err-add_name.field-0.0 in
    let h = rw c.in_ok-add_listed_name.ensures.names at c.in_err-add_name.ensures.fault in
    err_of c.from_residual-in_err-add_name.result e _ c.from_residual-in_err-add_name.ensures.1
    (tells_past e _ _ c.in_ok-element.ensures.sound (tells_past e _ _ c.in_ok-add_listed_name.ensures.sound (tells_here e _ _ h)))

pub returns-in_err-check_bound-clause-fault : goal.returns-in_err-check_bound-clause-fault
returns-in_err-check_bound-clause-fault c =
    let e = c.in_err-check_bound.field-0.0 in
    let h = rw c.in_ok-add_listed_name.ensures.names at c.in_ok-add_name.ensures.sound in
    err_of c.from_residual-in_err-check_bound.result e _ c.from_residual-in_err-check_bound.ensures.1
    (tells_past e _ _ c.in_ok-element.ensures.sound (tells_past e _ _ c.in_ok-add_listed_name.ensures.sound (tells_past e _ _ h c.in_err-check_bound.ensures.fault)))

pub returns-clause-sound : goal.returns-clause-sound
returns-clause-sound c =
    let h = rw c.in_ok-add_listed_name.ensures.names at c.in_ok-add_name.ensures.sound in
    none_past _ _ c.in_ok-element.ensures.sound ∙ none_past _ _ c.in_ok-add_listed_name.ensures.sound ∙ none_past _ _ h ∙ c.in_ok-check_bound.ensures.sound

pub returns-clause-names : goal.returns-clause-names
returns-clause-names c =
    let new = c.args.argument.now.name.text.now in
    let length = c.args.length.now.text.now in
    c.in_ok-add_name.ensures.names ∙ ap (λ (l : List (List ℕ)). l ++ length ∷ []) c.in_ok-add_listed_name.ensures.names ∙ append_assoc (list_of c.args.names.now) (new ∷ []) (length ∷ [])

pub returns-clause-stands : goal.returns-clause-stands
returns-clause-stands c = ap (λ t. sized c.bound_of.result t) c.in_ok-element.ensures.stands ∙ ap (λ b. sized b (stands_for (before_of c.args.self.now) (name_of c.args.argument.now.type_name))) c.bound_of.ensures.exact
