use Rattle.std.proofs.Common.{◌≤◌, ◌<◌, ◌+◌, ℕ, List, length, Bor, refl, arith}
use Rattle.fl_value_data.specs.Value.{number, Data, nothing_more}
use Rattle.fl_value.specs.CallText.{Listed, a_number, a_text, greatest_depth}
use Rattle.fl_value.proofs.Once.{token_shorter, differ}
use Rattle.fl_value.proofs.Reading.{none_weaker}
use Rattle.fl_value.proofs.Nested.{no_value, no_mark, no_kind, not_enclosed, other_opened}
use Rattle.fl_value.proofs.Scanned.{SomeValue, text_spelled, list_spelled, struct_spelled, some_weaker, not_within, value_behind, value_last}
use Rattle.fl_value.proofs.scanner.+scan.Goals as goal

-- ---- a number, a text, an array, a struct

pub after_value-returns-in-Some-clause-found : goal.after_value-returns-in-Some-clause-found
after_value-returns-in-Some-clause-found t c = (number c.in-Some._number, c.in-Some.ensures.found, omega arith)

pub after_value-returns-in-Some-clause-shorter : goal.after_value-returns-in-Some-clause-shorter
after_value-returns-in-Some-clause-shorter t c = token_shorter (a_number c.in-Some._number) c.args.bytes.now c.in-Some.rest.now c.in-Some.ensures.found

pub after_value-returns-in-Some-after_text-clause-found : goal.after_value-returns-in-Some-after_text-clause-found
after_value-returns-in-Some-after_text-clause-found t c =
    text_spelled c.args.depth c.args.bytes.now c.in-Some-after_text.rest.now c.in-Some-after_text.ensures.found

pub after_value-returns-in-Some-after_text-clause-shorter : goal.after_value-returns-in-Some-after_text-clause-shorter
after_value-returns-in-Some-after_text-clause-shorter t c =
    token_shorter (a_text c.in-Some-after_text.ensures.found.0) c.args.bytes.now c.in-Some-after_text.rest.now c.in-Some-after_text.ensures.found.1

pub after_value-returns-in-Some-read_mark-clause-found : goal.after_value-returns-in-Some-read_mark-clause-found
after_value-returns-in-Some-read_mark-clause-found t c =
    some_weaker c.after_nested.result _ (λ (rest : Bor (List ℕ)). SomeValue c.args.depth c.args.bytes.now rest.now)
    (λ rest h. list_spelled c.args.depth c.args.bytes.now c.in-Some-read_mark.inside.now rest.now c.in-Some-read_mark.ensures.found h) c.after_nested.ensures.found

pub after_value-returns-in-Some-read_mark-clause-shorter : goal.after_value-returns-in-Some-read_mark-clause-shorter
after_value-returns-in-Some-read_mark-clause-shorter t c =
    some_weaker c.after_nested.result _ (λ (rest : Bor (List ℕ)). length rest.now < length c.args.bytes.now)
    (λ rest h. omega (arith, h, c.in-Some-read_mark.ensures.shorter)) c.after_nested.ensures.shorter

pub after_value-returns-in-Some-read_mark-clause-none : goal.after_value-returns-in-Some-read_mark-clause-none
after_value-returns-in-Some-read_mark-clause-none t c =
    let bytes = c.args.bytes.now in
    let inside = c.in-Some-read_mark.inside.now in
    let opened = c.in-Some-read_mark.ensures.found in
    none_weaker c.after_nested.result
    (λ none. no_kind bytes c.args.depth c.in_default.ensures.none c.in_default-after_text.ensures.none (not_within 91 93 c.args.depth bytes inside opened none)
    (other_opened 91 123 125 c.args.depth bytes inside (differ 91 123 refl) opened))
    c.after_nested.ensures.none

pub after_value-returns-in-Some-read_mark-2-clause-found : goal.after_value-returns-in-Some-read_mark-2-clause-found
after_value-returns-in-Some-read_mark-2-clause-found t c =
    some_weaker c.after_nested-in-Some-read_mark-2.result _ (λ (rest : Bor (List ℕ)). SomeValue c.args.depth c.args.bytes.now rest.now)
    (λ rest h. struct_spelled c.args.depth c.args.bytes.now c.in-Some-read_mark-2.inside.now rest.now c.in-Some-read_mark-2.ensures.found h) c.after_nested-in-Some-read_mark-2.ensures.found

pub after_value-returns-in-Some-read_mark-2-clause-shorter : goal.after_value-returns-in-Some-read_mark-2-clause-shorter
after_value-returns-in-Some-read_mark-2-clause-shorter t c =
    some_weaker c.after_nested-in-Some-read_mark-2.result _ (λ (rest : Bor (List ℕ)). length rest.now < length c.args.bytes.now)
    (λ rest h. omega (arith, h, c.in-Some-read_mark-2.ensures.shorter)) c.after_nested-in-Some-read_mark-2.ensures.shorter

pub after_value-returns-in-Some-read_mark-2-clause-none : goal.after_value-returns-in-Some-read_mark-2-clause-none
after_value-returns-in-Some-read_mark-2-clause-none t c =
    let bytes = c.args.bytes.now in
    none_weaker c.after_nested-in-Some-read_mark-2.result
    (λ none. no_kind bytes c.args.depth c.in_default.ensures.none c.in_default-after_text.ensures.none
    (not_enclosed 91 93 c.args.depth bytes c.in_default-read_mark.ensures.none)
    (not_within 123 125 c.args.depth bytes c.in-Some-read_mark-2.inside.now c.in-Some-read_mark-2.ensures.found none))
    c.after_nested-in-Some-read_mark-2.ensures.none

pub after_value-returns-clause-none : goal.after_value-returns-clause-none
after_value-returns-clause-none t c =
    no_kind c.args.bytes.now c.args.depth c.in_default.ensures.none c.in_default-after_text.ensures.none
    (not_enclosed 91 93 c.args.depth c.args.bytes.now c.in_default-read_mark.ensures.none)
    (not_enclosed 123 125 c.args.depth c.args.bytes.now c.in_default-read_mark-2.ensures.none)

-- ---- one less deep

pub after_nested-returns-clause-found : goal.after_nested-returns-clause-found
after_nested-returns-clause-found t c =
    some_weaker c.after_values.result _
    (λ (rest : Bor (List ℕ)). (ds : Data) × Listed c.args.closing ds c.args.bytes.now rest.now × (1 + greatest_depth ds ≤ c.args.depth))
    (λ rest (ds, listed, shallow). (ds, listed, omega (arith, shallow))) c.after_values.ensures.found

pub after_nested-returns-clause-none : goal.after_nested-returns-clause-none
after_nested-returns-clause-none t c =
    none_weaker c.after_values.result (λ none ds rest shallow listed. none ds rest (omega (arith, shallow)) listed) c.after_values.ensures.none

-- ---- values up to a closing mark

pub after_values-loop-after-init : goal.after_values-loop-after-init
after_values-loop-after-init t c = record {
  before = (nothing_more, refl, omega arith);
  near = omega arith;
  unclosed = c.in_default.ensures.none;
}

pub after_values-loop-after-preserved : goal.after_values-loop-after-preserved
after_values-loop-after-preserved t c = record {
  before = value_behind c.args.depth c.args.bytes.now c.loop-after.start.now c.in-Some-after_value.after.now c.in-Some-read_mark.next.now c.loop-after.invariant.before
      c.in-Some-after_value.ensures.found c.in-Some-read_mark.ensures.found;
  near = omega (arith, c.loop-after.invariant.near, c.in-Some-after_value.ensures.shorter, c.in-Some-read_mark.ensures.shorter);
  unclosed = c.loop-after.invariant.unclosed;
}

pub after_values-loop-after-smaller : goal.after_values-loop-after-smaller
after_values-loop-after-smaller t c = omega (arith, c.in-Some-after_value.ensures.shorter, c.in-Some-read_mark.ensures.shorter)

pub after_values-returns-in-Some-clause-found : goal.after_values-returns-in-Some-clause-found
after_values-returns-in-Some-clause-found t c = (nothing_more, (c.args.bytes.now, refl, c.in-Some.ensures.found), omega arith)

pub after_values-returns-in_default-after_value-clause-none : goal.after_values-returns-in_default-after_value-clause-none
after_values-returns-in_default-after_value-clause-none t c =
    no_value c.loop-after.invariant.before.0 c.args.closing c.args.depth c.args.bytes.now c.loop-after.start.now c.requires.closing c.loop-after.invariant.before.1
    c.loop-after.invariant.unclosed c.in_default-after_value.ensures.none

pub after_values-returns-in_default-read_mark-clause-found : goal.after_values-returns-in_default-read_mark-clause-found
after_values-returns-in_default-read_mark-clause-found t c =
    some_weaker c.read_mark-in_default-read_mark.result _
    (λ (rest : Bor (List ℕ)). (ds : Data) × Listed c.args.closing ds c.args.bytes.now rest.now × (greatest_depth ds ≤ c.args.depth))
    (λ rest closed. value_last c.args.closing c.args.depth c.args.bytes.now c.loop-after.start.now c.in-Some-after_value.after.now rest.now c.loop-after.invariant.before
    c.in-Some-after_value.ensures.found closed) c.read_mark-in_default-read_mark.ensures.found

pub after_values-returns-in_default-read_mark-clause-shorter : goal.after_values-returns-in_default-read_mark-clause-shorter
after_values-returns-in_default-read_mark-clause-shorter t c =
    some_weaker c.read_mark-in_default-read_mark.result _ (λ (rest : Bor (List ℕ)). length rest.now < length c.args.bytes.now)
    (λ rest h. omega (arith, h, c.loop-after.invariant.near, c.in-Some-after_value.ensures.shorter)) c.read_mark-in_default-read_mark.ensures.shorter

pub after_values-returns-in_default-read_mark-clause-none : goal.after_values-returns-in_default-read_mark-clause-none
after_values-returns-in_default-read_mark-clause-none t c =
    none_weaker c.read_mark-in_default-read_mark.result
    (λ none. no_mark c.loop-after.invariant.before.0 c.in-Some-after_value.ensures.found.0 c.args.closing c.args.depth c.args.bytes.now c.loop-after.start.now
    c.in-Some-after_value.after.now c.requires.closing c.loop-after.invariant.before.1 c.loop-after.invariant.unclosed c.in-Some-after_value.ensures.found.1
    c.in_default-read_mark.ensures.none none) c.read_mark-in_default-read_mark.ensures.none
