use Rattle.std.proofs.Common.{◌≡◌, ◌∙◌, ap, sym, subst, ℕ, List, map, length, Vec, Global}
use Rattle.std.proofs.lemmas.List.{length-map}
use Rattle.fl_history_rings.specs.declared.board.SideEnd.{SideEnd}
use Rattle.fl_history_rings.specs.Rings.{sides_of}
use Rattle.fl_history_rings.specs.Cores.{TheCoresLeft}
use Rattle.fl_history_sides.specs.declared.sides.HistorySides.{HistorySides}
use Rattle.fl_history_sides.specs.Lent.{states_in}
use Rattle.fl_cores_shares.specs.Shares.{holdings_in}
use Rattle.fl_history_shares.specs.Dealt.{first_hands}
use Rattle.fl_history_shares.specs.Dealing.{AreAllMine}
use Rattle.fl_history_shares.proofs.Numbered.{dealt_mine}
use Rattle.fl_history_shares.proofs.Shown.{first_length}
use Rattle.fl_history_shares.proofs.dealing.deal.Goals as goal

pub sides_by-requires-clause-mine : goal.sides_by-requires-clause-mine
sides_by-requires-clause-mine c =
    let ends : c.in_ok-left.left.sides ≡ sides_of c.args.ends.now = ap (λ (o : TheCoresLeft). o.sides) c.in_ok-left.ensures.left in
    subst (λ (es : List SideEnd). AreAllMine es 0 (map (λ holding. holding.items) c.deref.result.now)) (sym ends)
    (subst (λ (vs : List (Vec ℕ Global)). AreAllMine (sides_of c.args.ends.now) 0 (map (λ holding. holding.items) vs)) (sym c.deref.ensures.value)
    (dealt_mine c.args.cores c.args.ends.now c.in_ok-numbers.numbers c.in_ok-numbers.ensures.numbered))

pub returns : goal.returns
returns c =
    let numbers = c.in_ok-numbers.numbers in
    let numbered = c.in_ok-numbers.ensures.numbered in
    let left = c.in_ok-left.left in
    let sides = c.in_ok-sides.sides.items in
    let rings = c.args.ends.now in
    let ends : left.sides ≡ sides_of rings = ap (λ (o : TheCoresLeft). o.sides) c.in_ok-left.ensures.left in
    let hands =
    c.in_ok-sides.ensures.sides
    ∙ ap (λ (es : List SideEnd). first_hands left.table es 0 (map (λ holding. holding.items) c.deref.result.now)) ends
    ∙ ap (λ (vs : List (Vec ℕ Global)). first_hands left.table (sides_of rings) 0 (map (λ holding. holding.items) vs)) c.deref.ensures.value in
    record {
      deals = record {
        owners = numbered.owners;
        holds = numbered.holds;
        table = left.table;
        hands = hands;
        as_many = sym (length-map sides (λ (s : HistorySides). states_in s.lent)) ∙ ap length hands
            ∙ first_length left.table (sides_of rings) 0 (holdings_in numbers)
            ∙ length-map numbers.holdings.items (λ (v : Vec ℕ Global). v.items) ∙ numbered.cores_are;
      };
    }
