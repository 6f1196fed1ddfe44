use Rattle.std.proofs.Common.{◌≡◌, Bool, true, false, Some, List, subst, sym, ◌∙◌}
use Rattle.fl_stub.specs.declared.op.Op.{Op}
use Rattle.fl_stub.specs.declared.op.Column.{Column}
use Rattle.fl_stub.specs.declared.walk.WalkState.TheVariants.{Inside}
use Rattle.fl_stub.specs.Structure.{Block, IsCode}
use Rattle.fl_stub.specs.Frames.{block_of}
use Rattle.fl_stub.specs.Walk.{accepts}
use Rattle.fl_stub.proofs.Structures.{accepted, accepts_code}
use Rattle.fl_stub.proofs.code.verify.Goals as goal

structure : (column : Column) (ops now : List Op) (test : Bool) → now ≡ ops → test ≡ accepts column (Some (Inside 0)) now → test ≡ true → IsCode column ops (block_of ops)
structure column ops now test e found holds = accepted column ops (subst (λ (x : List Op). accepts column (Some (Inside 0)) x ≡ true) e (sym found ∙ holds))

refused : (is : Column) (ops one two : List Op) (test : Bool) → one ≡ ops → two ≡ ops → ((column : Column) (block : Block) → IsCode column one block → is ≡ column)
    → test ≡ accepts is (Some (Inside 0)) two → test ≡ false → (column : Column) (block : Block) → IsCode column ops block → ⊥
refused is ops one two test e f only found fails column block h =
    let same : is ≡ column = only column block (subst (λ (x : List Op). IsCode column x block) (sym e) h) in
    let a : accepts is (Some (Inside 0)) two ≡ true
    = subst (λ (k : Column). accepts k (Some (Inside 0)) two ≡ true) (sym same) (subst (λ (x : List Op). accepts column (Some (Inside 0)) x ≡ true) (sym f) (accepts_code column ops block h)) in
    let b : true ≡ false = sym a ∙ sym found ∙ fails in
    absurd (cc)

pub invariant_of-result : goal.invariant_of-result
invariant_of-result c = structure c.column_of-column.result c.args.code.ops.items _ _ c.deref-2.ensures.value c.accepts.ensures c.if-accepts.true

pub returns-then-accepts-clause-structure : goal.returns-then-accepts-clause-structure
returns-then-accepts-clause-structure c = structure c.column_of-column.result c.args.code.ops.items _ _ c.deref-2.ensures.value c.accepts.ensures c.if-accepts.true

pub returns-else-accepts-clause-none : goal.returns-else-accepts-clause-none
returns-else-accepts-clause-none c = refused c.column_of-column.result c.args.code.ops.items _ _ _ c.deref.ensures.value c.deref-2.ensures.value c.column_of-column.ensures.told c.accepts.ensures c.if-accepts.false
