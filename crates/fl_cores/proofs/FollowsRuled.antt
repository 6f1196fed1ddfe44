-- Cores behind reply rules that were set before a run: of the ends of their boards these alone have changed.
use Rattle.std.proofs.Common.{◌≡◌, inl, inr, refl, sym, ◌∙◌, ap, subst, ℕ, List, [], ◌∷◌, slice_get, slice_set, Option, Some, None}
use Rattle.fl_base.specs.declared.identity.EndId.{EndId}
use Rattle.fl_hop.proofs.Lists.{set_cases}
use Rattle.fl_endpoint.specs.View.{TheEnd}
use Rattle.fl_core.specs.BoardView.{TheEndAtChannel, TheBoard}
use Rattle.fl_core.specs.View.{TheCore, with_board}
use Rattle.fl_world_refines.specs.declared.binding.Binding.{Binding}
use Rattle.fl_world_refines.specs.View.{core_in}
use Rattle.fl_cores_file.specs.Jobs.{Job, opens, replies, calls}
use Rattle.fl_cores_jobs.specs.Rules.{RulesCore, RuleNow, RuleOf, RulesOf}

-- an end as it was, but for its rules
pub record WasEnd (seats : List TheEndAtChannel) (e : ℕ) (x : TheEndAtChannel) : Type 0 where
  pub before : TheEndAtChannel
  pub before_is : slice_get seats e ≡ Some before
  pub program : x.end.program ≡ before.end.program
  pub outgoing : x.end.outgoing ≡ before.end.outgoing
  pub parts : x.end.parts ≡ before.end.parts
  pub circuit : x.end.circuit ≡ before.end.circuit
  pub failed : x.end.failed ≡ before.end.failed
  pub dispatcher : x.dispatcher ≡ before.dispatcher
  pub channel : x.channel ≡ before.channel

-- a core as it was, but for those
pub record Ruled (k k2 : TheCore) : Type 0 where
  pub rest : k2 ≡ with_board k k2.board
  pub dispatchers : k2.board.dispatchers ≡ k.board.dispatchers
  pub ends : (e : ℕ) (seat : TheEndAtChannel) → slice_get k2.board.seats e ≡ Some seat → WasEnd k.board.seats e seat

seat_itself : (seats : List TheEndAtChannel) (e : ℕ) (seat : TheEndAtChannel) → slice_get seats e ≡ Some seat → WasEnd seats e seat
seat_itself seats e seat at = record {
  before = seat;
  before_is = at;
  program = refl;
  outgoing = refl;
  parts = refl;
  circuit = refl;
  failed = refl;
  dispatcher = refl;
  channel = refl;
}

itself : (k : TheCore) → Ruled k k
itself k = record {
  rest = refl;
  dispatchers = refl;
  ends = λ e seat at. seat_itself k.board.seats e seat at;
}

then_ruled : (k m k2 : TheCore) → Ruled k m → Ruled m k2 → Ruled k k2
then_ruled k m k2 a b = record {
  rest = b.rest ∙ ap (λ (c : TheCore). with_board c k2.board) a.rest;
  dispatchers = b.dispatchers ∙ a.dispatchers;
  ends = λ e seat at.
      let y = b.ends e seat at in
      let x = a.ends e y.before y.before_is in
      record {
        before = x.before;
        before_is = x.before_is;
        program = y.program ∙ x.program;
        outgoing = y.outgoing ∙ x.outgoing;
        parts = y.parts ∙ x.parts;
        circuit = y.circuit ∙ x.circuit;
        failed = y.failed ∙ x.failed;
        dispatcher = y.dispatcher ∙ x.dispatcher;
        channel = y.channel ∙ x.channel;
      };
}

core_ruled : (e : EndId) (msg answer : ℕ) (k k2 : TheCore) → RulesCore e msg answer k k2 → Ruled k k2
core_ruled e msg answer k k2 r =
    let change = r.sets.event in
    record {
      rest = r.sets.rest;
      dispatchers = ap (λ (b : TheBoard). b.dispatchers) change.board;
      ends = λ n seat at. elim (set_cases k.board.seats r.place
          (record { end = change.end; dispatcher = change.seat.dispatcher; channel = change.seat.channel; kind = change.seat.kind }) n seat
          (ap (λ (b : TheBoard). slice_get b.seats n) (sym change.board) ∙ at)) [
            | inl (here, same) ↦ record {
              before = change.seat;
              before_is = ap (slice_get k.board.seats) here ∙ change.seat_is;
              program = ap (λ (x : TheEndAtChannel). x.end.program) same ∙ ap (λ (x : TheEnd). x.program) change.event.3;
              outgoing = ap (λ (x : TheEndAtChannel). x.end.outgoing) same ∙ ap (λ (x : TheEnd). x.outgoing) change.event.3;
              parts = ap (λ (x : TheEndAtChannel). x.end.parts) same ∙ ap (λ (x : TheEnd). x.parts) change.event.3;
              circuit = ap (λ (x : TheEndAtChannel). x.end.circuit) same ∙ ap (λ (x : TheEnd). x.circuit) change.event.3;
              failed = ap (λ (x : TheEndAtChannel). x.end.failed) same ∙ ap (λ (x : TheEnd). x.failed) change.event.3;
              dispatcher = ap (λ (x : TheEndAtChannel). x.dispatcher) same;
              channel = ap (λ (x : TheEndAtChannel). x.channel) same;
            }
            | inr (other, there_is) ↦ seat_itself k.board.seats n seat there_is
          ];
    }

-- ---- all cores

pub record Was (cores : List TheCore) (n : ℕ) (k2 : TheCore) : Type 0 where
  pub core : TheCore
  pub core_is : slice_get cores n ≡ Some core
  pub ruled : Ruled core k2

abbrev AllWere : List TheCore → List TheCore → Type 0
AllWere cores cores2 = (n : ℕ) (k2 : TheCore) → slice_get cores2 n ≡ Some k2 → Was cores n k2

same_cores : (cores cores2 : List TheCore) → cores2 ≡ cores → AllWere cores cores2
same_cores cores cores2 same n k at = record { core = k; core_is = ap (λ (ks : List TheCore). slice_get ks n) (sym same) ∙ at; ruled = itself k }

then_were : (a b c : List TheCore) → AllWere a b → AllWere b c → AllWere a c
then_were a b c f g n k at =
    let y = g n k at in
    let x = f n y.core y.core_is in
    record { core = x.core; core_is = x.core_is; ruled = then_ruled x.core y.core k x.ruled y.ruled }

set_were : (cores cores2 : List TheCore) (i : ℕ) (before after : TheCore) → slice_get cores i ≡ Some before → Ruled before after → cores2 ≡ slice_set cores i after
    → AllWere cores cores2
set_were cores cores2 i before after there_is ruled is n k at =
    elim (set_cases cores i after n k (ap (λ (ks : List TheCore). slice_get ks n) (sym is) ∙ at)) [
      | inl (place, same) ↦ record { core = before; core_is = ap (slice_get cores) place ∙ there_is; ruled = subst (Ruled before) (sym same) ruled }
      | inr (other, old) ↦ record { core = k; core_is = old; ruled = itself k }
    ]

rule_now : (o : Option Binding) (e : EndId) (msg answer : ℕ) (cores cores2 : List TheCore) → RuleNow o e msg answer cores cores2 → AllWere cores cores2
rule_now None e msg answer cores cores2 h = same_cores cores cores2 h
rule_now (Some x) e msg answer cores cores2 h =
    set_were cores cores2 (core_in e.side x) h.core h.after h.core_is (core_ruled e msg answer h.core h.after h.rules) h.rest

rule_of : (bindings : List Binding) (job : Job) (cores cores2 : List TheCore) → RuleOf bindings job cores cores2 → AllWere cores cores2
rule_of bindings (opens w) cores cores2 h = same_cores cores cores2 h
rule_of bindings (replies e msg answer) cores cores2 h = rule_now (slice_get bindings e.binding) e msg answer cores cores2 h
rule_of bindings (calls e c) cores cores2 h = same_cores cores cores2 h

pub were : (bindings : List Binding) (jobs : List Job) (cores cores2 : List TheCore) → RulesOf bindings jobs cores cores2 → AllWere cores cores2
were bindings [] cores cores2 h = same_cores cores cores2 h
were bindings (job ∷ jobs) cores cores2 (m, first, rest) = then_were cores m cores2 (rule_of bindings job cores m first) (were bindings jobs m cores2 rest)
