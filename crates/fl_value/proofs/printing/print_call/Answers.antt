use Rattle.std.proofs.Common.{◌≡◌, ◌++◌, ◌∷◌, [], ℕ, List, map, refl}
use Rattle.fl_value_data.specs.Value.{datum_of, data_from}
use Rattle.fl_value.specs.Printed.{printed_values, printed_call}
use Rattle.fl_value.proofs.Begun.{IsLeft, one_piece_less, begun_left, begun_piece, not_begun, on_refusal}
use Rattle.fl_value.proofs.printing.print_call.Goals as goal

-- behind the name, and behind the parenthesis
opened : (old named out name values : List ℕ) → named ≡ old ++ name → out ≡ named ++ 40 ∷ [] → IsLeft old out (name ++ 40 ∷ (values ++ 41 ∷ [])) (values ++ 41 ∷ [])
opened old named out name values first second =
    one_piece_less old named out (name ++ 40 ∷ (values ++ 41 ∷ [])) (40 ∷ (values ++ 41 ∷ [])) (40 ∷ []) (values ++ 41 ∷ []) (name, refl, first) refl second

pub returns-in_err-extend_from_slice-clause-begun : goal.returns-in_err-extend_from_slice-clause-begun
returns-in_err-extend_from_slice-clause-begun c =
    on_refusal c.from_residual.result
    (not_begun c.args.out.now.items c.extend_from_slice.new.self.items (printed_call c.args.name.now (map datum_of c.args.args.now)) c.in_err-extend_from_slice.ensures.items)

pub returns-in_err-push-clause-begun : goal.returns-in_err-push-clause-begun
returns-in_err-push-clause-begun c =
    let values = printed_values (data_from (map datum_of c.args.args.now)) in
    on_refusal c.from_residual-in_err-push.result
    (begun_left c.args.out.now.items c.extend_from_slice.new.self.items c.push.new.self.items (printed_call c.args.name.now (map datum_of c.args.args.now)) (40 ∷ (values ++ 41 ∷ []))
    (c.args.name.now, refl, c.in_ok-extend_from_slice.ensures.items) c.in_err-push.ensures.items)

pub returns-in_err-print_values-clause-begun : goal.returns-in_err-print_values-clause-begun
returns-in_err-print_values-clause-begun c =
    let old = c.args.out.now.items in
    let values = printed_values (data_from (map datum_of c.args.args.now)) in
    let behind = opened old c.extend_from_slice.new.self.items c.push.new.self.items c.args.name.now values c.in_ok-extend_from_slice.ensures.items c.in_ok-push.ensures.items in
    on_refusal c.from_residual-in_err-print_values.result
    (begun_piece old c.push.new.self.items c.print_values.new.out.items (printed_call c.args.name.now (map datum_of c.args.args.now)) (values ++ 41 ∷ []) values (41 ∷ []) behind refl c.in_err-print_values.ensures.begun)

pub returns-in_err-push-2-clause-begun : goal.returns-in_err-push-2-clause-begun
returns-in_err-push-2-clause-begun c =
    let old = c.args.out.now.items in
    let whole = printed_call c.args.name.now (map datum_of c.args.args.now) in
    let values = printed_values (data_from (map datum_of c.args.args.now)) in
    let inside = c.print_values.new.out.items in
    let behind = opened old c.extend_from_slice.new.self.items c.push.new.self.items c.args.name.now values c.in_ok-extend_from_slice.ensures.items c.in_ok-push.ensures.items in
    let closing = one_piece_less old c.push.new.self.items inside whole (values ++ 41 ∷ []) values (41 ∷ []) behind refl c.in_ok-print_values.ensures.printed in
    on_refusal c.from_residual-in_err-push-2.result (begun_left old inside c.push-2.new.self.items whole (41 ∷ []) closing c.in_err-push-2.ensures.items)
