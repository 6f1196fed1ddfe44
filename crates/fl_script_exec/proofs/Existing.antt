-- What a script's items ask for is there.
use Rattle.std.proofs.Common.{◌≡◌, ◌∙◌, inl, inr, refl, sym, ap, subst, ℕ, zero, suc, ◌<◌, Bool, true, false, List, [], ◌∷◌, ◌++◌, length, map, slice_get, Option, Some, None, option_map, if◌then◌else◌, arith}
use Rattle.std.specs.Prelude.{nat_lt, is_some, IsSome}
use Rattle.std.specs.Str.{bytes_eq}
use Rattle.std.proofs.lemmas.Option.{slice_get-map}
use Rattle.fl_base.specs.declared.identity.EndId.{EndId}
use Rattle.fl_base.specs.Given.{given}
use Rattle.fl_interface.specs.Interface.{TheMessage}
use Rattle.fl_value_data.specs.Value.{Datum}
use Rattle.fl_value_data.specs.declared.value.PlanNo.{PlanNo}
use Rattle.fl_model.specs.Calls.{Planned}
use Rattle.fl_model.specs.Events.{DispatcherId, Event, add_interface, set_cores, add_link, add_dispatcher, monitor_write, monitor_ack}
use Rattle.fl_model.specs.Events as event
use Rattle.fl_model.specs.Runs.{Exchange}
use Rattle.fl_model.specs.State.{Binding}
use Rattle.fl_model_laws.proofs.Cases.{either, by_given}
use Rattle.fl_script_lines.specs.Commands.{EndName, Command, cores, link, disp, export, bind, call, show, write, turn, ack, register, deregister, reply, mwrite, forward, mack}
use Rattle.fl_script_lines.specs.Grammar.{silent, heading, command, unread}
use Rattle.fl_script_lines.specs.Items.{Item, a_line, a_block, open_block}
use Rattle.fl_script_lines.specs.Names.{place_of, dispatcher_at, end_at, message_at, messages_at}
use Rattle.fl_script_lines.specs.Asked.{Asked, refuses, asks, is_taken, asks_end, asks_call, asks_interface, CallAsks, Asks}
use Rattle.fl_check.specs.Text.{TextOutcome, stands_for, text_fault}
use Rattle.fl_script_exec.specs.Transcript.{Script, beginning, Effect, effect_of, block_effect, Does, AllDo, last_of}
use Rattle.fl_script_exec.specs.Standing.{message_names, HasDispatcher, HasInterface, HasEnd, HasMessage, IsOfWhatStands, ScriptsAskOfWhatStands}
use Rattle.fl_script_exec.proofs.Asking.{asked_once, begun}
use Rattle.fl_script_exec.proofs.Once.{place_within}
use Rattle.fl_script_exec.proofs.Naming.{After, one_of, dispatcher_there, map_length, item_after, fits_first}
use Rattle.fl_script_exec.proofs.Views.{interface_in}

is_there : {X : Type 0} (o : Option X) → (x : X) × (o ≡ Some x) → IsSome o
is_there o (x, e) = ap is_some e

abbrev AllStand : Script → List Exchange → Type 0
AllStand s xs = (n : ℕ) (x : Exchange) → slice_get xs n ≡ Some x → IsOfWhatStands s.state x.event

abbrev the_end : ℕ → EndName → EndId
the_end place e = record { binding = place; side = e.side }

-- ---- what is found by a name

module _ (s : Script) (h : After s) where
  placed_at : (o : Option ℕ) (d : DispatcherId) → (given o None λ place. slice_get s.names.placed place) ≡ Some d
      → (k : ℕ) × (slice_get s.names.placed k ≡ Some d)
  placed_at None d e = absurd (cc)
  placed_at (Some k) d e = (k, e)

  dispatcher_found : (name : List ℕ) (d : DispatcherId) → dispatcher_at s.names name ≡ Some d → HasDispatcher s.state d
  dispatcher_found name d e =
      let (k, q) = placed_at (place_of name s.names.dispatchers) d e in
      is_there _ (dispatcher_there s.state.cores d.core d.place (h.within k d q))

  interface_found : (name : List ℕ) (i : ℕ) → place_of name s.names.interfaces ≡ Some i → HasInterface s.state i
  interface_found name i e =
      let below = place_within (bytes_eq name) s.names.interfaces i e in
      let as_many = ap (λ (x : List (List ℕ)). length x) h.interfaces ∙ map_length _ s.state.interfaces in
      is_there _ (one_of s.state.interfaces i (omega (arith, below, as_many)))

  end_by : (o : Option ℕ) (e : EndName) (x : EndId) → (given o None λ place. Some (the_end place e)) ≡ Some x → o ≡ Some x.binding
  end_by None e x q = absurd (cc)
  end_by (Some place) e x q = let same : the_end place e ≡ x = cc in ap (λ (y : EndId). Some y.binding) same

  end_found : (e : EndName) (x : EndId) → end_at s.names e ≡ Some x → HasEnd s.state x
  end_found e x q =
      let below = place_within (bytes_eq e.binding) s.names.bindings x.binding (end_by (place_of e.binding s.names.bindings) e x q) in
      let as_many = h.bindings in
      let spoken = ap (λ (y : List ℕ). length y) h.spoken ∙ map_length _ s.state.bindings in
      is_there _ (one_of s.state.bindings x.binding (omega (arith, below, as_many, spoken)))

  -- the names of a message's interface, as the state has them
  abbrev names_at : EndId → List (List ℕ)
  names_at x =
      given (slice_get (map interface_in s.state.bindings) x.binding) [] λ i.
      given (slice_get (map message_names s.state.interfaces) i) [] λ names. names

  names_are : (x : EndId) → messages_at s.names x ≡ names_at x
  names_are x =
      ap (λ (spoken : List ℕ). given (slice_get spoken x.binding) [] λ i. given (slice_get s.names.messages i) [] λ names. names) h.spoken
      ∙ ap (λ (all : List (List (List ℕ))). given (slice_get (map interface_in s.state.bindings) x.binding) [] λ i. given (slice_get all i) [] λ names. names) h.messages

  message_in : (x : EndId) (m : ℕ) → m < length (names_at x) → HasMessage s.state x m
  message_in x m below =
      by_binding (slice_get s.state.bindings x.binding) refl
      (subst (λ (o : Option ℕ). m < length (given o [] λ i. given (slice_get (map message_names s.state.interfaces) i) [] λ names. names))
      (slice_get-map interface_in s.state.bindings x.binding) below)
    where
      by_interface : (b : Binding) → slice_get s.state.bindings x.binding ≡ Some b → (o : Option Planned) → slice_get s.state.interfaces b.interface ≡ o
          → m < length (given (option_map message_names o) [] λ names. names) → HasMessage s.state x m
      by_interface b at None q less = absurd (omega (arith, less))
      by_interface b at (Some i) q less =
          let as_many = map_length (λ (y : TheMessage). y.name) i.interface.messages in
          (b, i, at, q, omega (arith, less, as_many))

      by_binding : (o : Option Binding) → slice_get s.state.bindings x.binding ≡ o
          → m < length (given (option_map interface_in o) [] λ i. given (slice_get (map message_names s.state.interfaces) i) [] λ names. names)
          → HasMessage s.state x m
      by_binding None q less = absurd (omega (arith, less))
      by_binding (Some b) q less =
          by_interface b q (slice_get s.state.interfaces b.interface) refl
          (subst (λ (o : Option (List (List ℕ))). m < length (given o [] λ names. names)) (slice_get-map message_names s.state.interfaces b.interface) less)

  place_by : (o : Option ℕ) (m : ℕ) → (given o None λ k. if nat_lt k 65536 then Some k else None) ≡ Some m → o ≡ Some m
  place_by None m e = absurd (cc)
  place_by (Some k) m e = by_test (nat_lt k 65536) e
    where
      by_test : (b : Bool) → (if b then Some k else None) ≡ Some m → Some k ≡ Some m
      by_test true q = q
      by_test false q = absurd (cc)

  message_found : (x : EndId) (name : List ℕ) (m : ℕ) → message_at s.names x name ≡ Some m → HasMessage s.state x m
  message_found x name m e =
      let below = place_within (bytes_eq name) (messages_at s.names x) m (place_by (place_of name (messages_at s.names x)) m e) in
      message_in x m (subst (λ (names : List (List ℕ)). m < length names) (names_are x) below)

  -- ---- commands

  -- what is asked, is asked of what is there
  abbrev Stands : Asked → Type 0
  Stands (refuses fault) = Unit {0}
  Stands (asks v new) = IsOfWhatStands s.state v

  nothing : Unit {0}
  nothing = record {}

  end_stands : (f : EndId → Event) (e : EndName) → ((x : EndId) → HasEnd s.state x → IsOfWhatStands s.state (f x)) → Stands (asks_end s.names f e)
  end_stands f e each = by_given Stands (end_at s.names e) _ _ nothing (λ x q. each x (end_found e x q))

  call_stands : (e : EndName) (name : List ℕ) (args : List Datum) → Stands (asks_call s.names e name args)
  call_stands e name args =
      by_given Stands (end_at s.names e) _ _ nothing
      (λ x q. by_given Stands (message_at s.names x name) _ _ nothing (λ m r. message_found x name m r))

  called_stands : (e : EndName) (text : List ℕ) (asked : Asked) → CallAsks s.names e text asked → Stands asked
  called_stands e text asked (inl (name, args, spelled, e2)) = subst Stands (sym e2) (call_stands e name args)
  called_stands e text asked (inr (none, e2)) = subst Stands (sym e2) nothing

  command_stands : (c : Command) (asked : Asked) → Asks s.names c asked → Stands asked
  command_stands (cores k) asked e = subst Stands (sym e) nothing
  command_stands (link a b slots) asked e = subst Stands (sym e) nothing
  command_stands (disp name core) asked e =
      subst Stands (sym e) (either Stands (is_taken name s.names.dispatchers) _ _ (λ q. nothing) (λ q. nothing))
  command_stands (export service d i) asked e =
      subst Stands (sym e)
      (by_given Stands (dispatcher_at s.names d) _ _ nothing
      (λ x q. by_given Stands (place_of i s.names.interfaces) _ _ nothing (λ y r. (dispatcher_found d x q, interface_found i y r))))
  command_stands (bind p d i service back) asked e =
      subst Stands (sym e)
      (either Stands (is_taken p s.names.bindings) _ _ (λ q. nothing)
      (λ q. by_given Stands (dispatcher_at s.names d) _ _ nothing
      (λ x r. by_given Stands (place_of i s.names.interfaces) _ _ nothing (λ y t. (dispatcher_found d x r, interface_found i y t)))))
  command_stands (call e text) asked a = called_stands e text asked a
  command_stands (show e) asked a = subst Stands (sym a) (end_stands event.show e (λ x t. t))
  command_stands (write e) asked a = subst Stands (sym a) (end_stands event.write e (λ x t. t))
  command_stands (turn d) asked a =
      subst Stands (sym a) (by_given Stands (dispatcher_at s.names d) _ _ nothing (λ x q. dispatcher_found d x q))
  command_stands (ack e) asked a = subst Stands (sym a) (end_stands event.ack e (λ x t. t))
  command_stands (register e) asked a = subst Stands (sym a) (end_stands event.register e (λ x t. t))
  command_stands (deregister e) asked a = subst Stands (sym a) (end_stands event.deregister e (λ x t. t))
  command_stands (reply e message answer) asked a =
      subst Stands (sym a)
      (by_given Stands (end_at s.names e) _ _ nothing
      (λ x q. by_given Stands (message_at s.names x message) _ _ nothing
      (λ m r. by_given Stands (message_at s.names x answer) _ _ nothing (λ k t. (message_found x message m r, message_found x answer k t)))))
  command_stands (mwrite core neighbour) asked a = subst Stands (sym a) nothing
  command_stands (forward core neighbour) asked a = subst Stands (sym a) nothing
  command_stands (mack core neighbour) asked a = subst Stands (sym a) nothing

  -- ---- items

  none_stand : AllStand s []
  none_stand n x e = absurd (cc)

  asked_stand : (asked : Asked) → Stands asked → AllStand s (effect_of s asked).asked
  asked_stand (refuses fault) t n x e = none_stand n x e
  asked_stand (asks v new) t zero x e = let same : asked_once s.state v ≡ x = cc in subst (λ (y : Exchange). IsOfWhatStands s.state y.event) same t
  asked_stand (asks v new) t (suc n) x e = absurd (cc)

  block_stands : (plan : PlanNo) (outcome : TextOutcome) → AllStand s (block_effect s plan outcome).asked
  block_stands plan (text_fault number offset) = none_stand
  block_stands plan (stands_for i) =
      asked_stand (asks_interface s.names i plan) (either Stands (is_taken i.name s.names.interfaces) _ _ (λ q. nothing) (λ q. nothing))

  at_effect : (x y : Effect) → x ≡ y → AllStand s y.asked → AllStand s x.asked
  at_effect x y e t = subst (λ (z : Effect). AllStand s z.asked) (sym e) t

  item_stands : (item : Item) (effect : Effect) → Does s item effect → AllStand s effect.asked
  item_stands (a_line silent) effect e = at_effect effect _ e none_stand
  item_stands (a_line (command c)) effect (asked, a, e) = at_effect effect (effect_of s asked) e (asked_stand asked (command_stands c asked a))
  item_stands (a_line unread) effect e = at_effect effect _ e none_stand
  item_stands (a_line (heading plan)) effect e = at_effect effect _ e none_stand
  item_stands open_block effect e = at_effect effect _ e none_stand
  item_stands (a_block plan text) effect (outcome, m, e) = at_effect effect (block_effect s plan outcome) e (block_stands plan outcome)

-- ---- the script

-- the item behind those that were done asks of what is there then
next_stands : (s : Script) → After s → (items : List Item) (done : List Effect) (next : Effect) → AllDo s items (done ++ next ∷ [])
    → AllStand (last_of s done) next.asked
next_stands s h [] [] next e = absurd (cc)
next_stands s h [] (d ∷ done) next e = absurd (cc)
next_stands s h (item ∷ items) [] next (first, rest, does, others, e) =
    let same : next ≡ first = cc in
    subst (λ (x : Effect). AllStand s x.asked) (sym same) (item_stands s h item first does)
next_stands s h (item ∷ items) (d ∷ done) next (first, rest, does, others, e) =
    let same : d ≡ first = cc in
    let behind : done ++ next ∷ [] ≡ rest = cc in
    subst (λ (x : Effect). AllStand (last_of x.after done) next.asked) (sym same)
    (next_stands first.after (item_after s item first does h) items done next (subst (AllDo first.after items) (sym behind) others))

pub names_are_there : ScriptsAskOfWhatStands
names_are_there bytes done next b =
    let (firsts, h) = begun bytes (done ++ next ∷ []) b in
    next_stands beginning fits_first firsts done next h
