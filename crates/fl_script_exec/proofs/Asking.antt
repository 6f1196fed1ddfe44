-- What a script's items ask of the machine is a run of it.
use Rattle.std.proofs.Common.{ℕ, ◌≡◌, ◌∙◌, ◌⊎◌, inl, inr, List, [], ◌∷◌, ◌++◌, sym, ap, subst, refl}
use Rattle.fl_base.specs.Ends.{peer}
use Rattle.fl_base.specs.Prefix.{IsPrefix}
use Rattle.fl_value_data.specs.declared.value.PlanNo.{PlanNo}
use Rattle.fl_model.specs.Events.{Event}
use Rattle.fl_model.specs.State.{State, start}
use Rattle.fl_model.specs.Step.{step}
use Rattle.fl_model.specs.Runs.{Exchange, run, reached, calls_handled}
use Rattle.fl_model.specs.Laws.{accepted_by, HandledIsAPrefix, AllAccepted}
use Rattle.fl_script_lines.specs.Asked.{Asked, refuses, asks, asks_interface}
use Rattle.fl_script_lines.specs.Grammar.{silent, heading, command, unread}
use Rattle.fl_script_lines.specs.Items.{Item, a_line, a_block, open_block}
use Rattle.fl_check.specs.Text.{TextOutcome, stands_for, text_fault}
use Rattle.fl_script_exec.specs.Transcript.{Script, beginning, Effect, writes_refusal, effect_of, block_effect, Does, AllDo, Begins, last_of, asked_in}
use Rattle.fl_script_exec.specs.Handled.{ScriptsHandlePrefixes}

-- nothing is asked, and the state stays; or one event, and the state is the machine's next
abbrev pub asked_once : State → Event → Exchange
asked_once s v = record { event = v; answer = (step s v).answer }

abbrev pub AsksOnce : Script → Effect → Type 0
AsksOnce s effect =
    ((effect.asked ≡ []) × (effect.after.state ≡ s.state))
    ⊎ ((v : Event) × (effect.asked ≡ asked_once s.state v ∷ []) × (effect.after.state ≡ (step s.state v).state))

does_once : (s : Script) (asked : Asked) → AsksOnce s (effect_of s asked)
does_once s (refuses fault) = inl (refl, refl)
does_once s (asks v new) = inr (v, refl, refl)

block_once : (s : Script) (plan : PlanNo) (outcome : TextOutcome) → AsksOnce s (block_effect s plan outcome)
block_once s plan (text_fault number offset) = inl (refl, refl)
block_once s plan (stands_for i) = does_once s (asks_interface s.names i plan)

same_once : (s : Script) (x y : Effect) → x ≡ y → AsksOnce s y → AsksOnce s x
same_once s x y e h = subst (λ (z : Effect). AsksOnce s z) (sym e) h

item_once : (s : Script) (item : Item) (effect : Effect) → Does s item effect → AsksOnce s effect
item_once s (a_line silent) effect e = same_once s effect _ e (inl (refl, refl))
item_once s (a_line (command c)) effect (asked, h, e) = same_once s effect (effect_of s asked) e (does_once s asked)
item_once s (a_line unread) effect e = same_once s effect (writes_refusal s 90) e (inl (refl, refl))
item_once s (a_line (heading plan)) effect e = same_once s effect (writes_refusal s 90) e (inl (refl, refl))
item_once s open_block effect e = same_once s effect (writes_refusal s 90) e (inl (refl, refl))
item_once s (a_block plan text) effect (outcome, h, e) = same_once s effect (block_effect s plan outcome) e (block_once s plan outcome)

-- these are the exchanges of a run from a state, and where it leads
abbrev pub IsRun : State → List Exchange → State → Type 0
IsRun s xs t = (vs : List Event) × (xs ≡ run s vs) × (t ≡ reached s vs)

one_more : (s : Script) (first : Effect) (more : List Exchange) (t : State) → AsksOnce s first → IsRun first.after.state more t → IsRun s.state (first.asked ++ more) t
one_more s first more t (inl (none, same)) (vs, e, r) = (
  vs,
  ap (λ (xs : List Exchange). xs ++ more) none ∙ (e ∙ ap (λ (z : State). run z vs) same),
  r ∙ ap (λ (z : State). reached z vs) same,
)
one_more s first more t (inr (v, one, next)) (vs, e, r) = (
  v ∷ vs,
  ap (λ (xs : List Exchange). xs ++ more) one ∙ (ap (λ (xs : List Exchange). asked_once s.state v ∷ xs) e
      ∙ ap (λ (z : State). asked_once s.state v ∷ run z vs) next),
  r ∙ ap (λ (z : State). reached z vs) next,
)

pub all_run : (s : Script) (items : List Item) (effects : List Effect) → AllDo s items effects → IsRun s.state (asked_in effects) (last_of s effects).state
all_run s [] effects e = ([], ap asked_in e, ap (λ (es : List Effect). (last_of s es).state) e)
all_run s (item ∷ items) effects (first, others, d, h, e) =
    let (vs, q, r) = one_more s first (asked_in others) (last_of first.after others).state (item_once s item first d) (all_run first.after items others h) in
    (vs, ap asked_in e ∙ q, ap (λ (es : List Effect). (last_of s es).state) e ∙ r)

-- ---- the first items of a script

-- what is done first is done by the first items
pub first_items : (s : Script) (items : List Item) (done others : List Effect) → AllDo s items (done ++ others)
    → (firsts : List Item) × AllDo s firsts done
first_items s items [] others h = ([], refl)
first_items s [] (d ∷ done) others h = absurd (cc)
first_items s (item ∷ items) (d ∷ done) others (first, rest, does, h, e) =
    let same : d ≡ first = cc in
    let behind : done ++ others ≡ rest = cc in
    let (firsts, k) = first_items first.after items done others (subst (AllDo first.after items) (sym behind) h) in
    (item ∷ firsts, (first, done, does, k, ap (λ (x : Effect). x ∷ done) same))

pub begun : (bytes : List ℕ) (done : List Effect) → Begins bytes done → (firsts : List Item) × AllDo beginning firsts done
begun bytes done (others, r) = let (items, i, h) = r in first_items beginning items done others h

pub handlers : HandledIsAPrefix → AllAccepted → ScriptsHandlePrefixes
handlers prefix all bytes done b =
    let (firsts, h) = begun bytes done b in
    let (vs, e, r) = all_run beginning firsts done h in
    record {
      events = vs;
      run_is = e;
      handled = λ x. subst (λ (xs : List Exchange). IsPrefix (calls_handled x xs) (accepted_by (reached start vs) (peer x))) (sym e) (prefix vs x);
      accepted = λ x. all vs x;
    }
