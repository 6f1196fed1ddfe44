use Rattle.std.proofs.Common.{◌≡◌, ◌∙◌, ◌<◌, ◌+◌, ◌++◌, ℕ, [], ◌∷◌, List, map, length, drop, get_or, true, refl, ap, sym, subst, append_assoc, append-nil}
use Rattle.std.proofs.lemmas.List.{drop_all}
use Rattle.std.proofs.lemmas.Bool.{and_parts}
use Rattle.fl_interface.specs.declared.interface.ArgType.{ArgType}
use Rattle.fl_interface.specs.Interface.{TheArgType, arg_type_of}
use Rattle.fl_interface.specs.Limits.{is_argument_within, are_arguments_within}
use Rattle.fl_layout.specs.Extents.{placing}
use Rattle.fl_layout.specs.declared.extent.Extent.{Extent}
use Rattle.fl_layout.specs.declared.extent.PlacedArg.{PlacedArg}
use Rattle.fl_layout.proofs.Arranging.{left_of_rank, rank_taken, rank_passed}
use Rattle.fl_value_data.proofs.Turns.{map_dropped}
use Rattle.fl_layout.proofs.arrange.place_rank.Goals as goal

-- the types from one on are within the limits
parts_within : (types : List ArgType) (k : ℕ) (type : ArgType) → k < length types → type ≡ get_or types k type → are_arguments_within (map arg_type_of (drop k types)) ≡ true
    → (is_argument_within (arg_type_of type) ≡ true) × (are_arguments_within (map arg_type_of (drop (k + 1) types)) ≡ true)
parts_within types k type small is h =
    and_parts (is_argument_within (arg_type_of type)) _ (subst (λ (ts : List TheArgType). are_arguments_within ts ≡ true) (map_dropped arg_type_of types k type small is) h)

pub loop-index-init : goal.loop-index-init
loop-index-init c = (refl, c.requires.within)

pub extent-requires : goal.extent-requires
extent-requires c =
    record { within = (parts_within c.args.arguments.now c.loop-index.index c.index-arguments-index.result c.loop-index-test.true c.index-arguments-index.is c.loop-index.invariant.1).0 }

pub loop-index-preserved-then-rank_of-rank : goal.loop-index-preserved-then-rank_of-rank
loop-index-preserved-then-rank_of-rank c =
    let k = c.loop-index.index in
    let types = c.args.arguments.now in
    let type = c.index-arguments-index.result in
    let split = ap (left_of_rank c.args.plan c.args.rank k) (map_dropped arg_type_of types k type c.loop-index-test.true c.index-arguments-index.is)
    ∙ rank_passed c.args.plan c.args.rank k (arg_type_of type) (map arg_type_of (drop (k + 1) types)) (λ e. c.if-rank_of-rank.true (c.rank_of.ensures.same ∙ e)) in (
      ap (λ (ps : List PlacedArg). c.loop-index.order.items ++ ps) (sym split) ∙ c.loop-index.invariant.0,
      (parts_within types k type c.loop-index-test.true c.index-arguments-index.is c.loop-index.invariant.1).1,
    )

pub loop-index-preserved : goal.loop-index-preserved
loop-index-preserved c =
    let k = c.loop-index.index in
    let types = c.args.arguments.now in
    let type = c.index-arguments-index.result in
    let here = placing (k, arg_type_of type) in
    let rest = left_of_rank c.args.plan c.args.rank (k + 1) (map arg_type_of (drop (k + 1) types)) in
    let split = ap (left_of_rank c.args.plan c.args.rank k) (map_dropped arg_type_of types k type c.loop-index-test.true c.index-arguments-index.is)
    ∙ rank_taken c.args.plan c.args.rank k (arg_type_of type) (map arg_type_of (drop (k + 1) types)) (sym c.rank_of.ensures.same ∙ c.if-rank_of-rank.false) in
    let pushed : c.push.new.self.items ≡ c.loop-index.order.items ++ here ∷ []
    = c.in_ok-push.ensures.items ∙ ap (λ (e : Extent). c.loop-index.order.items ++ record { argument = k; extent = e } ∷ []) c.extent.ensures.exact in (
      ap (λ (ps : List PlacedArg). ps ++ rest) pushed ∙ append_assoc c.loop-index.order.items (here ∷ []) rest
          ∙ ap (λ (ps : List PlacedArg). c.loop-index.order.items ++ ps) (sym split) ∙ c.loop-index.invariant.0,
      (parts_within types k type c.loop-index-test.true c.index-arguments-index.is c.loop-index.invariant.1).1,
    )

pub returns : goal.returns
returns c =
    let types = c.args.arguments.now in
    let none = ap (λ (ts : List ArgType). left_of_rank c.args.plan c.args.rank c.loop-index.index (map arg_type_of ts)) (drop_all c.loop-index.index types c.loop-index-test.false) in
    record { placed = sym (append-nil c.loop-index.order.items) ∙ ap (λ (ps : List PlacedArg). c.loop-index.order.items ++ ps) (sym none) ∙ c.loop-index.invariant.0 }
