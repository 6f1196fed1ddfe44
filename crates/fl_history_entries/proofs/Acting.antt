-- Actions of one side that are an event, and the steps that they are.
use Rattle.std.proofs.Common.{ℕ, ◌≡◌, ◌≢◌, ◌⊎◌, inl, inr, ⊎_elim, ◌==◌, eq-eqb, ne_eqb, Bool, true, false, List, [], ◌∷◌, ◌++◌, Option, Some, None, ap, subst, ◌∙◌, sym, refl}
use Rattle.fl_base.specs.declared.fragment.Frag.{Frag}
use Rattle.fl_history_rings.specs.declared.board.Action.{Action}
use Rattle.fl_history_rings.specs.declared.board.Action.TheVariants.{Put, Found, Missed, Saw, Took}
use Rattle.fl_history_rings.specs.declared.board.Entry.{Entry}
use Rattle.fl_history_rings.specs.Rings.{entry}
use Rattle.fl_history_rings.specs.Rule.{gather, one_action, seen_from}
use Rattle.fl_history_rings.proofs.Logs.{then_is, else_is}
use Rattle.fl_history_events.specs.Events.{MayWait, AllMayWait, MayComeEarlier, stands_from, known_to_stand, FollowAll, IsEventAfter}
use Rattle.fl_history_events.proofs.Cutting.{gather_join}
use Rattle.fl_history_events.proofs.Moments.{stands_join}

-- ---- steps of one core by one side

abbrev pub entries : ℕ → ℕ → List Action → List Entry
entries k s [] = []
entries k s (a ∷ acts) = entry k s a ∷ entries k s acts

pub entries_join : (k s : ℕ) (xs ys : List Action) → entries k s (xs ++ ys) ≡ entries k s xs ++ entries k s ys
entries_join k s [] ys = refl
entries_join k s (x ∷ xs) ys = ap (λ (l : List Entry). entry k s x ∷ l) (entries_join k s xs ys)

pub piece_here : (s : ℕ) (e : Entry) (es : List Entry) → e.side ≡ s → gather one_action s (e ∷ es) ≡ e.action ∷ gather one_action s es
piece_here s e es is =
    let none : List Action = [] in
    ap (λ (l : List Action). l ++ gather one_action s es) (then_is (e.side == s) (one_action e.action) none (eq-eqb e.side s is))

pub piece_else : (s : ℕ) (e : Entry) (es : List Entry) → e.side ≢ s → gather one_action s (e ∷ es) ≡ gather one_action s es
piece_else s e es ne =
    let none : List Action = [] in
    ap (λ (l : List Action). l ++ gather one_action s es) (else_is (e.side == s) (one_action e.action) none (ne_eqb e.side s ne))

pub gather_entries : (k s : ℕ) (acts : List Action) → gather one_action s (entries k s acts) ≡ acts
gather_entries k s [] = refl
gather_entries k s (a ∷ acts) =
    piece_here s (entry k s a) (entries k s acts) refl ∙ ap (λ (l : List Action). a ∷ l) (gather_entries k s acts)

-- ---- actions that follow one another

abbrev pub AllWait : List Action → Type 0
AllWait [] = Unit {0}
AllWait (a ∷ acts) = MayWait a × AllWait acts

pub wait_join : (xs ys : List Action) → AllWait xs → AllWait ys → AllWait (xs ++ ys)
wait_join [] ys one two = two
wait_join (x ∷ xs) ys one two = (one.0, wait_join xs ys one.1 two)

pub wait_cut : (xs ys : List Action) → AllWait (xs ++ ys) → AllWait xs × AllWait ys
wait_cut [] ys all_so = (tt, all_so)
wait_cut (x ∷ xs) ys all_so = let rest = wait_cut xs ys all_so.1 in ((all_so.0, rest.0), rest.1)

-- by one side, of which it is known or not beforehand that a fragment stands for it
abbrev pub FollowActs : Bool → List Action → List Action → Type 0
FollowActs known before [] = Unit {0}
FollowActs known before (a ∷ acts) =
    (AllWait before ⊎ MayComeEarlier (stands_from known before) a) × FollowActs known (before ++ a ∷ []) acts

pub all_wait_follow : (known : Bool) (before acts : List Action) → AllWait before → AllWait acts → FollowActs known before acts
all_wait_follow known before [] first all_so = tt
all_wait_follow known before (a ∷ acts) first all_so =
    (inl first, all_wait_follow known (before ++ a ∷ []) acts (wait_join before (a ∷ []) first (all_so.0, tt)) all_so.1)

pub one_follows : (known : Bool) (before acts : List Action) (a : Action) → AllWait before → AllWait acts → FollowActs known before (acts ++ a ∷ [])
one_follows known before [] a first all_so = (inl first, tt)
one_follows known before (x ∷ acts) a first all_so =
    (inl first, one_follows known (before ++ x ∷ []) acts a (wait_join before (x ∷ []) first (all_so.0, tt)) all_so.1)

-- these steps wait where the actions do, and follow where they do
entries_wait : (k s : ℕ) (acts : List Action) → AllWait acts → AllMayWait (entries k s acts)
entries_wait k s [] all_so = tt
entries_wait k s (a ∷ acts) all_so = (all_so.0, entries_wait k s acts all_so.1)

known_with : (s k : ℕ) (past : List Entry) (acts : List Action) → known_to_stand s (past ++ entries k s acts) ≡ stands_from (known_to_stand s past) acts
known_with s k past acts =
    ap (stands_from false) (gather_join one_action s past (entries k s acts))
    ∙ ap (λ (l : List Action). stands_from false (gather one_action s past ++ l)) (gather_entries k s acts)
    ∙ stands_join false (gather one_action s past) acts

entries_follow : (k s : ℕ) (past : List Entry) (before acts : List Action) → FollowActs (known_to_stand s past) before acts
    → FollowAll past (entries k s before) (entries k s acts)
entries_follow k s past before [] follow = tt
entries_follow k s past before (a ∷ acts) follow = (
  ⊎_elim
      (λ wait. inl (entries_wait k s before wait))
      (λ come. inr (subst (λ (b : Bool). MayComeEarlier b a) (sym (known_with s k past before)) come))
      follow.0,
  subst (λ (l : List Entry). FollowAll past l (entries k s acts)) (entries_join k s before (a ∷ []))
      (entries_follow k s past (before ++ a ∷ []) acts follow.1),
)

pub acts_are_event : (k s : ℕ) (past : List Entry) (acts : List Action) → FollowActs (known_to_stand s past) [] acts → IsEventAfter past (entries k s acts)
acts_are_event k s past acts follow = entries_follow k s past [] acts follow

-- ---- what was seen is known to stand

none_some : (f : Frag) → (let none : Option Frag = None in none ≡ Some f) → ⊥
none_some f e = cc

seen_stands : (seen : Option Frag) (known : Bool) (acts : List Action) (frag : Frag) → ((f : Frag) → seen ≡ Some f → known ≡ true)
    → seen_from seen acts ≡ Some frag → stands_from known acts ≡ true
seen_stands seen known [] frag so is = so frag is
seen_stands seen known (Put f ∷ acts) frag so is = seen_stands seen known acts frag so is
seen_stands seen known (Found control ∷ acts) frag so is = seen_stands seen true acts frag (λ f e. refl) is
seen_stands seen known (Missed ∷ acts) frag so is = seen_stands seen known acts frag so is
seen_stands seen known (Saw g ∷ acts) frag so is = seen_stands (Some g) true acts frag (λ f e. refl) is
seen_stands seen known (Took g ∷ acts) frag so is = seen_stands None false acts frag (λ f e. absurd (none_some f e)) is

pub seen_known : (s : ℕ) (steps : List Entry) (frag : Frag) → seen_from None (gather one_action s steps) ≡ Some frag → known_to_stand s steps ≡ true
seen_known s steps frag is = seen_stands None false (gather one_action s steps) frag (λ f e. absurd (none_some f e)) is
