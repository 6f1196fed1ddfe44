-- A side by its actions alone, and what it finds by more of them.
use Rattle.std.proofs.Common.{ℕ, zero, ◌≡◌, ◌+◌, ◌⊎◌, inl, inr, ⊎_elim, ◌==◌, if◌then◌else◌, Bool, true, false, Option, Some, None, List, [], ◌∷◌, ◌++◌, length, get_or, ap, ◌∙◌, sym, refl, arith, append_assoc, append-nil, length-append}
use Rattle.atomic_table.specs.Seated.{TableId}
use Rattle.fl_base.specs.declared.fragment.Frag.{Frag}
use Rattle.fl_base.specs.Control.{told_of}
use Rattle.fl_link.specs.Looks.{Look, placed, no_room, spent, saw, saw_ack, found, found_ack, missed, told, kept}
use Rattle.fl_ring.specs.Counts.{count_from}
use Rattle.fl_ring.specs.Duo.{acknowledgement}
use Rattle.fl_ring.specs.SharedSides.{TheSide}
use Rattle.fl_cores_joined.specs.Rings.{FindsWhatStood}
use Rattle.fl_history_rings.specs.declared.board.Action.{Action}
use Rattle.fl_history_rings.specs.declared.board.Action.TheVariants.{Put, Found, Missed, Saw, Took}
use Rattle.fl_history_rings.specs.declared.board.Entry.{Entry}
use Rattle.fl_history_rings.specs.Rule.{gather, one_put, one_took, one_found, one_action, known_from, told_from, seen_from}
use Rattle.fl_history_rings.proofs.Logs.{known_push}
use Rattle.fl_history_sides.specs.States.{holder_of, one_load, one_miss, side_after}
use Rattle.fl_history_sides.specs.Noted.{NotesFound, NotesPut, NotesSeen, NotesTaken, Notes}

-- ---- pieces of actions

abbrev pub over : {A : Type 0} → (Action → List A) → List Action → List A
over f [] = []
over f (a ∷ acts) = f a ++ over f acts

pub over_join : {A : Type 0} (f : Action → List A) (xs ys : List Action) → over f (xs ++ ys) ≡ over f xs ++ over f ys
over_join f [] ys = refl
over_join {A} f (x ∷ xs) ys = ap (λ (l : List A). f x ++ l) (over_join f xs ys) ∙ sym (append_assoc (f x) (over f xs) (over f ys))

piece_over : {A : Type 0} (f : Action → List A) (b : Bool) (a : Action) (acts : List Action)
    → (if b then f a else []) ++ over f acts ≡ over f ((if b then one_action a else []) ++ acts)
piece_over f true a acts = refl
piece_over f false a acts = refl

pub gather_over : {A : Type 0} (f : Action → List A) (s : ℕ) (es : List Entry) → gather f s es ≡ over f (gather one_action s es)
gather_over f s [] = refl
gather_over {A} f s (e ∷ es) =
    ap (λ (l : List A). (if e.side == s then f e.action else []) ++ l) (gather_over f s es)
    ∙ piece_over f (e.side == s) e.action (gather one_action s es)

-- ---- a side by its actions

abbrev pub side_by : TableId → ℕ → ℕ → List Action → TheSide
side_by table slots s acts = record {
  ring = table;
  holder = holder_of s;
  size = slots;
  sent = over one_put acts;
  known = known_from 0 (over one_found acts);
  loads = length (over one_load acts);
  got = over one_took acts;
  peeked = seen_from None acts;
  misses = length (over one_miss acts);
  told = told_from 0 0 acts;
}

pub side_is : (table : TableId) (slots s : ℕ) (es : List Entry) → side_after table slots s es ≡ side_by table slots s (gather one_action s es)
side_is table slots s es = λ i. record {
  ring = table;
  holder = holder_of s;
  size = slots;
  sent = gather_over one_put s es i;
  known = known_from 0 (gather_over one_found s es i);
  loads = length (gather_over one_load s es i);
  got = gather_over one_took s es i;
  peeked = seen_from None (gather one_action s es);
  misses = length (gather_over one_miss s es i);
  told = told_from 0 0 (gather one_action s es);
}

-- ---- what actions find, one after another

-- where these fragments stand, in order
abbrev pub FindAlong : List Frag → List Action → Type 0
FindAlong stood [] = Unit {0}
FindAlong stood (Put f ∷ acts) = FindAlong stood acts
FindAlong stood (Found control ∷ acts) =
    ((first : Frag) × (rest : List Frag) × (stood ≡ first ∷ rest) × (first.control ≡ control)) × FindAlong stood acts
FindAlong stood (Missed ∷ acts) = (stood ≡ []) × FindAlong stood acts
FindAlong stood (Saw f ∷ acts) = ((rest : List Frag) × (stood ≡ f ∷ rest)) × FindAlong stood acts
FindAlong stood (Took f ∷ acts) = (rest : List Frag) × (stood ≡ f ∷ rest) × FindAlong rest acts

-- ---- the shapes of what is noted

pub data Shape : Type 0 where
  nothing : Shape
  misses : Shape
  puts : Frag → Shape
  finds : ℕ → Shape
  finds_and_puts : ℕ → Frag → Shape
  finds_and_sees : ℕ → Frag → Shape
  finds_and_takes : ℕ → Frag → Shape

abbrev pub acts_of : Shape → List Action
acts_of nothing = []
acts_of misses = Missed ∷ []
acts_of (puts f) = Put f ∷ []
acts_of (finds control) = Found control ∷ []
acts_of (finds_and_puts control f) = Found control ∷ Put f ∷ []
acts_of (finds_and_sees control f) = Found control ∷ Saw f ∷ []
acts_of (finds_and_takes control f) = Found control ∷ Took f ∷ []

abbrev HasShape : List Action → Type 0
HasShape did = (x : Shape) × (did ≡ acts_of x)

found_shape : (did : List Action) → NotesFound did → HasShape did
found_shape did notes = ⊎_elim (λ none. (nothing, none)) (λ one. (finds one.0, one.1)) notes

put_shape : (frag : Frag) (did : List Action) → NotesPut frag did → HasShape did
put_shape frag did (room, f, room_is, bare_is, did_is) =
    ⊎_elim
    (λ none. (puts f, did_is ∙ ap (λ (l : List Action). l ++ Put f ∷ []) none))
    (λ one. (finds_and_puts one.0 f, did_is ∙ ap (λ (l : List Action). l ++ Put f ∷ []) one.1))
    room_is

seen_shape : (look : Look) (did : List Action) → NotesSeen look did → HasShape did
seen_shape look did (f, at, is) = (finds_and_sees f.control f, is)

taken_shape : (look : Look) (did : List Action) → NotesTaken look did → HasShape did
taken_shape look did (f, at, is) = (finds_and_takes f.control f, is)

pub shape_of : (look : Look) (did : List Action) → Notes look did → HasShape did
shape_of (placed frag) did notes = put_shape frag did notes
shape_of no_room did notes = ⊎_elim (λ some. found_shape did some) (λ one. (misses, one)) notes
shape_of spent did notes = (nothing, notes)
shape_of (saw frag) did notes = seen_shape (saw frag) did notes
shape_of saw_ack did notes = seen_shape saw_ack did notes
shape_of (found frag) did notes = taken_shape (saw frag) did notes
shape_of found_ack did notes = taken_shape saw_ack did notes
shape_of missed did notes = (misses, notes)
shape_of told did notes = put_shape acknowledgement did notes
shape_of kept did notes = (nothing, notes)

-- ---- what a side finds

nil_cons : (x : Frag) (xs : List Frag) → (let none : List Frag = [] in none) ≡ x ∷ xs → ⊥
nil_cons x xs e = cc

same_first : (stood : List Frag) (x y : Frag) (xs ys : List Frag) → stood ≡ x ∷ xs → stood ≡ y ∷ ys → x ≡ y
same_first stood x y xs ys a b = ap (λ (l : List Frag). get_or l zero x) (sym a ∙ b)

same_some : (f g : Frag) → (let a : Option Frag = Some f in a ≡ Some g) → f ≡ g
same_some f g e = cc

none_some : (g : Frag) → (let a : Option Frag = None in a ≡ Some g) → ⊥
none_some g e = cc

seen_join : (seen : Option Frag) (xs ys : List Action) → seen_from seen (xs ++ ys) ≡ seen_from (seen_from seen xs) ys
seen_join seen [] ys = refl
seen_join seen (Put f ∷ xs) ys = seen_join seen xs ys
seen_join seen (Found control ∷ xs) ys = seen_join seen xs ys
seen_join seen (Missed ∷ xs) ys = seen_join seen xs ys
seen_join seen (Saw f ∷ xs) ys = seen_join (Some f) xs ys
seen_join seen (Took f ∷ xs) ys = seen_join None xs ys

module _ (table : TableId) (slots s : ℕ) (xs : List Action) (stood : List Frag)
    (seen_first : (frag : Frag) → seen_from None xs ≡ Some frag → (rest : List Frag) × (stood ≡ frag ∷ rest)) where
  abbrev before : TheSide
  before = side_by table slots s xs

  abbrev after : List Action → TheSide
  after did = side_by table slots s (xs ++ did)

  misses_are : (did : List Action) → (after did).misses ≡ before.misses + length (over one_miss did)
  misses_are did = ap length (over_join one_miss xs did) ∙ length-append (over one_miss xs) (over one_miss did)

  loads_are : (did : List Action) → (after did).loads ≡ before.loads + length (over one_load did)
  loads_are did = ap length (over_join one_load xs did) ∙ length-append (over one_load xs) (over one_load did)

  -- nothing was loaded
  unloaded : (did : List Action) → length (over one_miss did) ≡ 0 → length (over one_load did) ≡ 0 → FindsWhatStood stood before (after did)
  unloaded did no_miss no_load =
      let m = misses_are did in
      let l = loads_are did in
      record {
        nothing = λ less. absurd (omega (arith, less, m, no_miss));
        something = λ same less. absurd (omega (arith, less, l, no_load));
      }

  missed_it : stood ≡ [] → FindsWhatStood stood before (after (Missed ∷ []))
  missed_it none =
      let m = misses_are (Missed ∷ []) in
      record {
        nothing = λ less. none;
        something = λ same less. absurd (omega (arith, same, m));
      }

  -- a control word was loaded, and something followed
  known_is : (control : ℕ) (tail : List Action) → (let none : List ℕ = [] in over one_found tail ≡ none) → (after (Found control ∷ tail)).known ≡ count_from before.known (told_of control)
  known_is control tail none =
      ap (known_from 0) (over_join one_found xs (Found control ∷ tail) ∙ ap (λ (l : List ℕ). over one_found xs ++ control ∷ l) none)
      ∙ known_push 0 (over one_found xs) control

  loaded : (control : ℕ) (tail : List Action) → length (over one_miss tail) ≡ 0 → (let none : List ℕ = [] in over one_found tail ≡ none)
      → (first : Frag) (rest : List Frag) → stood ≡ first ∷ rest → first.control ≡ control
      → ((frag : Frag) → seen_from (seen_from None xs) tail ≡ Some frag → frag ≡ first)
      → (over one_took tail ≡ [] ⊎ over one_took tail ≡ first ∷ [])
      → FindsWhatStood stood before (after (Found control ∷ tail))
  loaded control tail no_miss none first rest is has sees took =
      let m = misses_are (Found control ∷ tail) in
      record {
        nothing = λ less. absurd (omega (arith, less, m, no_miss));
        something = λ same less. record {
          first = first;
          rest = rest;
          stood_is = is;
          known = known_is control tail none ∙ ap (λ (c : ℕ). count_from before.known (told_of c)) (sym has);
          saw = λ frag peeked. sees frag (sym (seen_join None xs (Found control ∷ tail)) ∙ peeked);
          took =
              ⊎_elim
              (λ nothing_more. inl (over_join one_took xs (Found control ∷ tail) ∙ ap (λ (l : List Frag). over one_took xs ++ l) nothing_more ∙ append-nil (over one_took xs)))
              (λ one_more. inr (over_join one_took xs (Found control ∷ tail) ∙ ap (λ (l : List Frag). over one_took xs ++ l) one_more))
              took;
        };
      }

  seen_stays : (first : Frag) (rest : List Frag) → stood ≡ first ∷ rest → (frag : Frag) → seen_from None xs ≡ Some frag → frag ≡ first
  seen_stays first rest is frag seen = let f = seen_first frag seen in same_first stood frag first f.0 rest f.1 is

  pub finds_what_stood : (x : Shape) → FindAlong stood (acts_of x) → FindsWhatStood stood before (after (acts_of x))
  finds_what_stood nothing along = unloaded [] refl refl
  finds_what_stood misses along = missed_it along.0
  finds_what_stood (puts f) along = unloaded (Put f ∷ []) refl refl
  finds_what_stood (finds control) along =
      let a = along.0 in
      loaded control [] refl refl a.0 a.1 a.2 a.3 (seen_stays a.0 a.1 a.2) (inl refl)
  finds_what_stood (finds_and_puts control f) along =
      let a = along.0 in
      loaded control (Put f ∷ []) refl refl a.0 a.1 a.2 a.3 (seen_stays a.0 a.1 a.2) (inl refl)
  finds_what_stood (finds_and_sees control f) along =
      let a = along.0 in
      let b = along.1.0 in
      let same : f ≡ a.0 = same_first stood f a.0 b.0 a.1 b.1 a.2 in
      loaded control (Saw f ∷ []) refl refl a.0 a.1 a.2 a.3 (λ frag seen. sym (same_some f frag seen) ∙ same) (inl refl)
  finds_what_stood (finds_and_takes control f) along =
      let a = along.0 in
      let same : f ≡ a.0 = same_first stood f a.0 along.1.0 a.1 along.1.1 a.2 in
      loaded control (Took f ∷ []) refl refl a.0 a.1 a.2 a.3 (λ frag seen. absurd (none_some frag seen)) (inr (ap (λ (z : Frag). z ∷ []) same))
