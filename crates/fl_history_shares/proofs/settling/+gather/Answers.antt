use Rattle.std.proofs.Common.{◌≡◌, ◌∙◌, ◌++◌, ◌∷◌, [], ap, sym, subst, rules, List, map, length, arith}
use Rattle.std.proofs.lemmas.List.{map-append}
use Rattle.fl_history_sides.specs.declared.sides.HistorySides.{HistorySides}
use Rattle.fl_history_sides.specs.Lent.{states_in}
use Rattle.fl_history_sides.specs.States.{TheHistorySide}
use Rattle.fl_cores_shares.specs.Shares.{Holdings}
use Rattle.fl_history_shares.specs.Dealt.{hands_in}
use Rattle.fl_history_shares.specs.Settled.{Gathers}
use Rattle.fl_history_shares.proofs.Gathered.{fits_last, front_at_one, gathers_more}
use Rattle.fl_history_shares.proofs.settling.+gather.Goals as goal

hands_are : (all front : List HistorySides) (last : HistorySides) → all ≡ front ++ last ∷ [] → hands_in all ≡ hands_in front ++ states_in last.lent ∷ []
hands_are all front last is = ap hands_in is ∙ map-append (λ (s : HistorySides). states_in s.lent) front (last ∷ [])

pub gather-before-requires : goal.gather-before-requires
gather-before-requires t c = (
  search rules,
  front_at_one (hands_in c.pop.new.self.items) (hands_in c.args.hands.items) (states_in c.in-Some.last.lent)
      (hands_are c.args.hands.items c.pop.new.self.items c.in-Some.last c.in-Some.ensures.items) c.requires.one,
)

pub with_sides-requires : goal.with_sides-requires
with_sides-requires t c = record {
  fits = fits_last (hands_in c.pop.new.self.items) (hands_in c.args.hands.items) (states_in c.in-Some.last.lent) c.gather-before.result
      (hands_are c.args.hands.items c.pop.new.self.items c.in-Some.last c.in-Some.ensures.items) c.gather-before.ensures.gathers c.requires.one;
}

pub returns : goal.returns
returns t c = record {
  gathers = subst (λ (hands : Holdings TheHistorySide). Gathers hands c.with_sides.result)
      (sym (hands_are c.args.hands.items c.pop.new.self.items c.in-Some.last c.in-Some.ensures.items))
      (gathers_more (hands_in c.pop.new.self.items) (states_in c.in-Some.last.lent) c.gather-before.result c.with_sides.result c.gather-before.ensures.gathers
      c.with_sides.ensures.none c.with_sides.ensures.some);
}
