-- A message's whole call, from the reading of its arguments and the zeros after them.
use Rattle.std.proofs.Common.{◌≡◌, ℕ, ◌+◌, ◌*◌, ◌<◌, ◌≤◌, Bool, true, false, ⊎_elim, List, [], ◌∷◌, ◌++◌, length, refl, sym, ◌∙◌, ap, subst, arith}
use Rattle.std.specs.Prelude.{◌||◌}
use Rattle.std.specs.List.{zip}
use Rattle.std.specs.Cmp.{first_so, second_so}
use Rattle.std.proofs.lemmas.Bool.{cases_lt}
use Rattle.fl_base.specs.declared.fragment.Frag.{Frag}
use Rattle.fl_interface.specs.Interface.{TheArgType}
use Rattle.fl_value_data.specs.Value.{Datum}
use Rattle.fl_value_data.specs.Fits.{is_argument}
use Rattle.fl_value_data.specs.Plan.{is_dynamic, of_ranks}
use Rattle.fl_value_data.specs.declared.value.PlanNo.{PlanNo}
use Rattle.fl_value_data.specs.Tape.{Argument, kind}
use Rattle.fl_layout.specs.Leaves.{Leaf, argument_onto, arguments_onto, start_onto}
use Rattle.fl_layout.specs.Places.{size, count_for}
use Rattle.fl_wire.specs.Payload.{payload_at}
use Rattle.fl_wire.specs.Standing.{FirstNonzero, byte_in, fitting}
use Rattle.fl_wire.specs.Covered.{is_length}
use Rattle.fl_wire.specs.Shapes.{Got, Wrong, ReadAt, StopsAt, calls_of}
use Rattle.fl_wire.specs.Whole.{leaves_of, Whole, WrongCall, StopsWhole}
use Rattle.fl_wire.specs.declared.leaf.CallReadFault.{CallReadFault}
use Rattle.fl_wire.specs.declared.leaf.CallReadFault.TheVariants.{Short, Padding, Value, Length, Memory}
use Rattle.fl_wire.proofs.Bytes.{past_end}
use Rattle.fl_wire.proofs.Agreement.{over_self, over_arguments, grows, all_ranks, fit_zip}
use Rattle.fl_wire.proofs.Covers.{covered_past}
use Rattle.fl_wire.proofs.Steps.{fewer}
use Rattle.fl_wire.proofs.Calls.{no_length_past}
use Rattle.fl_wire.proofs.Prefixes.{no_bytes}

in_frags : (n : ℕ) → n ≤ 56 * count_for n
in_frags n = omega arith

few_frags : (n count frags : ℕ) → count ≡ count_for n → n ≤ 56 * frags → 0 < frags → count ≤ frags
few_frags n count frags e h some = omega (arith, e, h, some)

pub whole_read : (plan : PlanNo) (ts : List TheArgType) (frags : List Frag) (ds : List Datum) (end count : ℕ) → 0 < length frags → count ≡ count_for end → end ≤ 56 * length frags
    → ReadAt (calls_of plan ts) frags 0 ds end → ((p : ℕ) → end ≤ p → p < count * 56 → byte_in frags p ≡ 0) → Whole plan ts frags ds count
whole_read plan ts frags ds end count some counts within read zeros =
    let got = read [] refl (no_bytes frags) in
    record {
      fit = got.fit;
      counts = counts ∙ ap count_for (sym got.ends);
      within = few_frags end count (length frags) counts within some;
      agree = record {
        at = λ p small. ⊎_elim
            (λ (own : p < end). got.agree.at p own)
            (λ (past : end ≤ p). zeros p past (omega (arith, small)) ∙ sym (past_end (leaves_of plan ts ds) p (omega (arith, got.ends, past))))
            (cases_lt p end);
      };
    }

wrong_call : (stop : CallReadFault) (plan : PlanNo) (ts : List TheArgType) (frags : List Frag) → Wrong stop (calls_of plan ts) frags [] → WrongCall stop plan ts frags
wrong_call stop plan ts frags w = record {
  p = w.p;
  inside = w.inside;
  none = λ e f agrees. w.none.none e (leaves_of plan ts e) f (over_self _) agrees;
  near = λ some.
      let near = w.near some in
      record { one = near.one; fit = near.fit; agree = near.agree; longer = omega (arith, near.longer, in_frags (size (leaves_of plan ts near.one))); why = near.why };
}

pub whole_stop : (stop : CallReadFault) (plan : PlanNo) (ts : List TheArgType) (frags : List Frag) → StopsAt stop (calls_of plan ts) frags 0 → StopsWhole stop plan ts frags
whole_stop Short plan ts frags h = h [] refl (no_bytes frags)
whole_stop Padding plan ts frags h = wrong_call Padding plan ts frags (h [] refl (no_bytes frags))
whole_stop Value plan ts frags h = wrong_call Value plan ts frags (h [] refl (no_bytes frags))
whole_stop Length plan ts frags h = wrong_call Length plan ts frags (h [] refl (no_bytes frags))
whole_stop Memory plan ts frags h = tt

-- ---- a byte after the last argument

no_length_after : (after : Bool) (args : List Argument) (low : List Leaf) (p : ℕ) → fitting args ≡ true → size (arguments_onto after args low) ≤ p → is_length after args low p ≡ false
no_length_after after [] low p fits past = refl
no_length_after after (a ∷ args) low p fits past =
    let now = argument_onto a.0 a.1 (start_onto after low) in
    let over = over_arguments (is_dynamic a.0) args now in
    let is : size (arguments_onto (is_dynamic a.0) args now) ≡ size (over.more ++ now) = ap size over.is in
    ap (λ (v : Bool). v || is_length (is_dynamic a.0) args now p)
    (no_length_past after a.0 a.1 low p (first_so (is_argument a.0 a.1) _ fits) (omega (arith, is, grows over.more now, past)))
    ∙ no_length_after (is_dynamic a.0) args now p (second_so (is_argument a.0 a.1) _ fits) past

pub whole_zeros : (plan : PlanNo) (ts : List TheArgType) (frags : List Frag) (ds : List Datum) (end count : ℕ) → 0 < length frags → count ≡ count_for end → end ≤ 56 * length frags
    → ReadAt (calls_of plan ts) frags 0 ds end → FirstNonzero frags end (count * 56) → WrongCall Padding plan ts frags
whole_zeros plan ts frags ds end count some counts within read w = record {
  p = w.p;
  inside = omega (arith, w.before, few_frags end count (length frags) counts within some);
  none = λ e f agrees.
      let same : e ≡ ds = got.told e (leaves_of plan ts e) f (over_self _) (fewer frags (leaves_of plan ts e) end (w.p + 1) (omega (arith, w.after)) agrees) in
      w.nonzero (agrees.at w.p (omega arith) ∙ ap (λ (xs : List Datum). payload_at (leaves_of plan ts xs) w.p) same ∙ past_end (leaves_of plan ts ds) w.p late);
  near = λ alive. record {
    one = ds;
    fit = got.fit;
    agree = record {
      at = λ q small. ⊎_elim
          (λ (own : q < end). got.agree.at q own)
          (λ (past : end ≤ q). w.zeros q past small ∙ sym (past_end (leaves_of plan ts ds) q (omega (arith, ends, past))))
          (cases_lt q end);
    };
    longer = subst (λ (n : ℕ). w.p < 56 * n) (counts ∙ ap count_for (sym ends)) (omega (arith, w.before));
    why = (no_length_after false (of_ranks kind plan 5 0 (zip ts ds)) [] w.p (all_ranks (λ (a : Argument). is_argument a.0 a.1) plan 5 0 (zip ts ds) (fit_zip ts ds got.fit)) late, covered_past (leaves_of plan ts ds) w.p late);
  };
}
  where
    got : Got (calls_of plan ts) frags [] ds end
    got = read [] refl (no_bytes frags)

    ends : size (leaves_of plan ts ds) ≡ end
    ends = got.ends

    late : size (leaves_of plan ts ds) ≤ w.p
    late = omega (arith, ends, w.after)
