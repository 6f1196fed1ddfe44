-- What the reading of a fitting call's first fragments gives.
use Rattle.std.proofs.Common.{◌≡◌, ◌≢◌, ℕ, ◌+◌, ◌*◌, ◌<◌, ◌≤◌, true, false, List, [], length, take, refl, sym, ◌∙◌, ap, subst, arith}
use Rattle.std.specs.List.{zip}
use Rattle.std.specs.Prelude.{slice_get}
use Rattle.fl_base.specs.declared.fragment.Frag.{Frag}
use Rattle.fl_interface.specs.Interface.{TheArgType, TheInterface}
use Rattle.fl_value_data.specs.Value.{Datum, TheCall}
use Rattle.fl_value_data.specs.Fits.{fits_of, are_arguments}
use Rattle.fl_value_data.specs.declared.value.PlanNo.{PlanNo}
use Rattle.fl_layout.specs.Leaves.{Leaf, leaves, argument_types, arguments_onto}
use Rattle.fl_layout.specs.Places.{size, count}
use Rattle.fl_wire.specs.Payload.{frags_of}
use Rattle.fl_value_data.specs.Plan.{of_ranks}
use Rattle.fl_value_data.specs.Tape.{kind}
use Rattle.fl_wire.specs.Shapes.{Agrees, Shape, Wrong, Stops, StopsAt, ReadAt, calls_of}
use Rattle.fl_wire.specs.declared.leaf.CallReadFault.{CallReadFault}
use Rattle.fl_wire.specs.declared.leaf.CallReadFault.TheVariants.{Short, Padding, Value, Length, Memory}
use Rattle.fl_wire.proofs.Arguments.{arguments_fit, leaves_ranks}
use Rattle.fl_wire.proofs.Agreement.{over_self}
use Rattle.fl_wire.proofs.Decoding.{prefix_holds, prefix_length, short_count, whole_count}
use Rattle.fl_wire.proofs.Steps.{fewer}

not_wrong : (stop : CallReadFault) (x : Shape) (frags : List Frag) (low : List Leaf) (e : x.what) → Wrong stop x frags low → x.fits e → Agrees frags (x.onto e low) (56 * length frags) → ⊥
not_wrong stop x frags low e w f agree = w.none.none e (x.onto e low) f (over_self (x.onto e low)) (fewer frags (x.onto e low) (w.p + 1) (56 * length frags) (omega (arith, w.inside)) agree)

-- where a thing agrees with all of the fragments, a reading that stops is cut short
pub stop_short : (x : Shape) (frags : List Frag) (low : List Leaf) (e : x.what) (stop : CallReadFault) → stop ≢ Memory → Stops stop x frags low → x.fits e → Agrees frags (x.onto e low) (56 * length frags)
    → 56 * length frags < size (x.onto e low)
stop_short x frags low e Short had h f agree = h.all.none e (x.onto e low) f (over_self (x.onto e low)) agree
stop_short x frags low e Padding had h f agree = absurd (not_wrong Padding x frags low e h f agree)
stop_short x frags low e Value had h f agree = absurd (not_wrong Value x frags low e h f agree)
stop_short x frags low e Length had h f agree = absurd (not_wrong Length x frags low e h f agree)
stop_short x frags low e Memory had h f agree = absurd (had refl)

pub no_bytes : (frags : List Frag) → Agrees frags [] 0
no_bytes frags = record { at = λ p small. absurd (omega (arith, small)) }

-- a call's arguments agree with its first fragments
pub prefix_agrees : (plan : PlanNo) (i : TheInterface) (c : TheCall) (k : ℕ) (frags : List Frag) (ts : List TheArgType) → k ≤ count plan i c → frags ≡ take k (frags_of plan i c)
    → ts ≡ argument_types i c.msg → Agrees frags ((calls_of plan ts).onto c.args []) (56 * length frags)
prefix_agrees plan i c k frags ts within are types =
    let holds = prefix_holds plan i c k frags within are in
    let same : leaves plan i c ≡ arguments_onto false (of_ranks kind plan 5 0 (zip ts c.args)) []
    = leaves_ranks plan i c ∙ ap (λ (us : List TheArgType). arguments_onto false (of_ranks kind plan 5 0 (zip us c.args)) []) (sym types) in
    subst (λ (ls : List Leaf). Agrees frags ls (56 * length frags)) same holds

pub prefix_size : (plan : PlanNo) (i : TheInterface) (c : TheCall) (ts : List TheArgType) → ts ≡ argument_types i c.msg → size (leaves plan i c) ≡ size ((calls_of plan ts).onto c.args [])
prefix_size plan i c ts types =
    ap size (leaves_ranks plan i c ∙ ap (λ (us : List TheArgType). arguments_onto false (of_ranks kind plan 5 0 (zip us c.args)) []) (sym types))

types_fit : (i : TheInterface) (c : TheCall) (ts : List TheArgType) → fits_of i c ≡ true → ts ≡ argument_types i c.msg → are_arguments ts c.args ≡ true
types_fit i c ts fits types = subst (λ (us : List TheArgType). are_arguments us c.args ≡ true) (sym types) (arguments_fit (slice_get i.messages c.msg) c.args fits)

pub prefix_stop : (plan : PlanNo) (i : TheInterface) (c : TheCall) (k : ℕ) (frags : List Frag) (ts : List TheArgType) (stop : CallReadFault) → fits_of i c ≡ true → k ≤ count plan i c → frags ≡ take k (frags_of plan i c)
    → ts ≡ argument_types i c.msg → stop ≢ Memory → StopsAt stop (calls_of plan ts) frags 0 → k < count plan i c
prefix_stop plan i c k frags ts stop fits within are types had stops =
    let cut = stop_short (calls_of plan ts) frags [] c.args stop had (stops [] refl (no_bytes frags)) (types_fit i c ts fits types) (prefix_agrees plan i c k frags ts within are types) in
    short_count (size (leaves plan i c)) (count plan i c) k refl (omega (arith, cut, prefix_size plan i c ts types, prefix_length plan i c k frags within are))

pub prefix_read : (plan : PlanNo) (i : TheInterface) (c : TheCall) (k : ℕ) (frags : List Frag) (ts : List TheArgType) (vs : List Datum) (end : ℕ) → fits_of i c ≡ true → 0 < k → k ≤ count plan i c → frags ≡ take k (frags_of plan i c)
    → ts ≡ argument_types i c.msg → end ≤ 56 * length frags → ReadAt (calls_of plan ts) frags 0 vs end → (vs ≡ c.args) × (count plan i c ≤ k)
prefix_read plan i c k frags ts vs end fits some within are types room read =
    let x = calls_of plan ts in
    let got = read [] refl (no_bytes frags) in
    let full = x.onto c.args [] in
    let same : c.args ≡ vs = got.told c.args full (types_fit i c ts fits types) (over_self full) (fewer frags full end (56 * length frags) room (prefix_agrees plan i c k frags ts within are types)) in
    let sizes : size full ≡ end = ap (λ (ds : List Datum). size (x.onto ds [])) same ∙ got.ends in
    (sym same, whole_count (size (leaves plan i c)) (count plan i c) k refl some (omega (arith, sizes, room, prefix_size plan i c ts types, prefix_length plan i c k frags within are)))
