use Rattle.std.proofs.Common.{rules, ◌≡◌, ◌≤◌, ◌+◌, ◌-◌, ℕ, true, map, arith, ap, ◌∙◌, refl}
use Rattle.std.proofs.lemmas.Result.{on_ok_weaker}
use Rattle.fl_interface.specs.declared.interface.FixedType.TheViews.{the_lemmas}
use Rattle.fl_interface.specs.declared.interface.FixedType.TheFolds.{fold-roll-FixedType, fold_out-FixedType}
use Rattle.fl_interface.specs.Interface.{TheType, array, type_step, type_of, fields_from}
use Rattle.fl_interface.specs.Sizes.{round_up, align_of, size_of, greatest_align}
use Rattle.fl_interface.specs.Limits.{is_well_made}
use Rattle.fl_stub.specs.Structure.{finished, block_ops}
use Rattle.fl_compile.specs.Compiled.{padding, fields_then}
use Rattle.fl_compile.proofs.Measures.{field_at, next_field, at_last, element_made, element_small}
use Rattle.fl_compile.proofs.Blocks.{field_written, fields_written}
use Rattle.fl_compile.proofs.types.+types.Goals as goal

both_sums : {a b c d : ℕ} → a ≡ b → c ≡ d → a + c ≡ b + d
both_sums {a = a} {d = d} e f = ap (λ (n : ℕ). a + n) f ∙ ap (λ (n : ℕ). n + d) e

pub push_type-push_array-requires : goal.push_type-push_array-requires
push_type-push_array-requires t c =
    let n = c.in-Array.count in
    let element = type_of c.deref-in-Array.result.now in
    let made : is_well_made (array n element) ≡ true = search (rules, the_lemmas, fold-roll-FixedType TheType type_step, fold_out-FixedType TheType type_step) in
    let small : size_of (array n element) ≤ 4096 = search (rules, the_lemmas, fold-roll-FixedType TheType type_step, fold_out-FixedType TheType type_step) in
    (search (rules, the_lemmas), (element_made n element made, element_small n element made small))

pub push_fields-loop-field-init : goal.push_fields-loop-field-init
push_fields-loop-field-init t c = record { known = record { ended = refl; made = c.requires.made }; written = refl }

pub push_fields-next_multiple_of-start-requires-clause-fits : goal.push_fields-next_multiple_of-start-requires-clause-fits
push_fields-next_multiple_of-start-requires-clause-fits t c =
    let f = field_at type_of c.args.fields.now c.loop-field.field-index c.loop-field.at c.field-item.result c.loop-field-test.true c.field-item.is c.requires.small c.loop-field.invariant.known in
    omega (arith, f.before, c.measures-size.ensures.few, c.measures-size.ensures.some)

pub push_fields-push_type-requires : goal.push_fields-push_type-requires
push_fields-push_type-requires t c =
    let f = field_at type_of c.args.fields.now c.loop-field.field-index c.loop-field.at c.field-item.result c.loop-field-test.true c.field-item.is c.requires.small c.loop-field.invariant.known in
    (search (rules, the_lemmas), (f.made, f.size))

pub push_fields-measures-size-requires : goal.push_fields-measures-size-requires
push_fields-measures-size-requires t c =
    let f = field_at type_of c.args.fields.now c.loop-field.field-index c.loop-field.at c.field-item.result c.loop-field-test.true c.field-item.is c.requires.small c.loop-field.invariant.known in
    omega (arith, f.size)

pub push_fields-overflow_add-at : goal.push_fields-overflow_add-at
push_fields-overflow_add-at t c =
    let f = field_at type_of c.args.fields.now c.loop-field.field-index c.loop-field.at c.field-item.result c.loop-field-test.true c.field-item.is c.requires.small c.loop-field.invariant.known in
    let at : c.next_multiple_of-start.result ≡ round_up c.loop-field.at (align_of (type_of c.field-item.result))
    = c.next_multiple_of-start.ensures.value ∙ ap (round_up c.loop-field.at) c.measures-size.ensures.align in
    omega (arith, f.after, c.measures-size.ensures.size, at)

pub push_fields-loop-field-preserved : goal.push_fields-loop-field-preserved
push_fields-loop-field-preserved t c =
    let fields = c.args.fields.now in
    let k = c.loop-field.field-index in
    let f = c.field-item.result in
    let inv = c.loop-field.invariant in
    let known = field_at type_of c.args.fields.now c.loop-field.field-index c.loop-field.at c.field-item.result c.loop-field-test.true c.field-item.is c.requires.small c.loop-field.invariant.known in
    let start : c.next_multiple_of-start.result ≡ round_up c.loop-field.at (align_of (type_of f))
    = c.next_multiple_of-start.ensures.value ∙ ap (round_up c.loop-field.at) c.measures-size.ensures.align in
    let after : c.next_multiple_of-start.result + c.measures-size.result.size ≡ round_up c.loop-field.at (align_of (type_of f)) + size_of (type_of f)
    = both_sums start c.measures-size.ensures.size in
    record {
      known = next_field type_of fields k c.loop-field.at f (c.next_multiple_of-start.result + c.measures-size.result.size) known after;
      written = field_written type_of fields k f c.args.column (greatest_align (fields_from (map type_of fields))) c.loop-field.at
          (c.next_multiple_of-start.result - c.loop-field.at) (c.next_multiple_of-start.result + c.measures-size.result.size)
          c.loop-field.ops.items c.push_zeros.new.ops.items c.push_type.new.ops.items
          c.loop-field-test.true c.field-item.is (ap (λ (n : ℕ). n - c.loop-field.at) start) after
          c.in_ok-push_zeros.ensures.ops c.in_ok-push_type.ensures.ops
          ∙ inv.written;
    }

pub push_fields-next_multiple_of-end-requires-clause-fits : goal.push_fields-next_multiple_of-end-requires-clause-fits
push_fields-next_multiple_of-end-requires-clause-fits t c =
    let last = at_last type_of c.args.fields.now c.loop-field.field-index c.loop-field.at c.loop-field-test.false c.requires.small c.loop-field.invariant.known in
    omega (arith, last, c.greatest_alignment-greatest.ensures.few, c.greatest_alignment-greatest.ensures.some)

pub push_fields-returns : goal.push_fields-returns
push_fields-returns t c =
    let fields = c.args.fields.now in
    let inv = c.loop-field.invariant in
    let whole = fields_from (map type_of fields) in
    let column = c.args.column in
    let pad : c.next_multiple_of-end.result - c.loop-field.at ≡ padding c.loop-field.at c.greatest_alignment-greatest.result
    = ap (λ (n : ℕ). n - c.loop-field.at) c.next_multiple_of-end.ensures.value in
    record {
      ops = on_ok_weaker c.push_zeros-2.result
          (λ e. fields_written type_of fields c.loop-field.field-index column (greatest_align whole) c.loop-field.at
          (c.next_multiple_of-end.result - c.loop-field.at) c.greatest_alignment-greatest.result
          c.args.ops.now.items c.loop-field.ops.items c.push_zeros-2.new.ops.items (block_ops column (fields_then column (greatest_align whole) 0 whole finished))
          c.loop-field-test.false pad c.greatest_alignment-greatest.ensures.exact e inv.written)
          c.push_zeros-2.ensures.ops;
    }
