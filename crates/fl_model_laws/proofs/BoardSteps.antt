-- What becomes of a board: where nothing of it changes, where a circuit is begun, and where a monitor's message is heard.
use Rattle.std.proofs.Common.{◌≡◌, refl, sym, ◌∙◌, ap, subst, ℕ, zero, suc, ◌+◌, ◌<◌, ◌≤◌, inl, inr}
use Rattle.std.proofs.Common.{List, [], length, Option, Some, None, arith}
use Rattle.std.specs.Prelude.{filter_map}
use Rattle.fl_lists.specs.ThreeLists.{NoRepeat}
use Rattle.fl_hop.specs.declared.entry.Hop.{Hop}
use Rattle.fl_hop.proofs.Entering.{same_or}
use Rattle.fl_model.specs.Rings.{MonitorLabel, circuit_opened, circuit_refused}
use Rattle.fl_model.specs.State.{OpeningVerdict, undecided, granted, denied, Route}
use Rattle.fl_model.specs.Standing.{core_at, number_at, Message, back_to, due_by, due_message, answer_number}
use Rattle.fl_model.specs.SoundRoutes.{VerdictFits, OneNumber}
use Rattle.fl_model.specs.SoundEntries.{Key, Leads}
use Rattle.fl_model_laws.proofs.Boards.{Has, has_none, Board, StandOn, message, MessageDue, Fits, Known, some_is, Changes, Own, says_on, due_on}
use Rattle.fl_model_laws.proofs.Boards.{Stands, stand_kept, due_kept, wait_kept, Takes, Puts, taken_left, taken_once, put_has, put_once}
use Rattle.fl_model_laws.proofs.Small.{some_same}

-- ---- an answer under way

-- it goes back over a link of the route
pub record AnswerAt (route : Route) (x y k : ℕ) : Type 0 where
  pub place : ℕ
  pub within : place < length route.numbers
  pub from : x ≡ core_at route (suc place)
  pub to : y ≡ core_at route place
  pub number : k ≡ number_at route place

no_answer : {X : Type 0} (m : MonitorLabel) (w : MonitorLabel) (k : ℕ) → answer_number m ≡ None → m ≡ w → answer_number w ≡ Some k → X
no_answer m w k n e q = let f : None ≡ Some k = sym n ∙ ap answer_number e ∙ q in absurd (cc)

some_number : (m w : MonitorLabel) (c k : ℕ) → answer_number m ≡ Some c → m ≡ w → answer_number w ≡ Some k → k ≡ c
some_number m w c k n e q = let f : Some k ≡ Some c = sym q ∙ ap answer_number (sym e) ∙ n in cc

pub answer_at : (n : ℕ) (route : Route) (v : OpeningVerdict) (x y k : ℕ) (w : MonitorLabel) → VerdictFits route v → due_by n route v ≡ Some (message x y w)
    → answer_number w ≡ Some k → AnswerAt route x y k
answer_at n route undecided x y k w f h q = no_answer _ w k refl (ap (λ (m : Message). m.said) (some_same _ _ h)) q
answer_at n route (granted zero) x y k w f h q = absurd (cc)
answer_at n route (granted (suc i)) x y k w f h q =
    let same : back_to route i (circuit_opened (number_at route i)) ≡ message x y w = some_same _ _ h in
    let g : suc i ≤ length route.numbers = f.1 in
    record {
      place = i;
      within = omega arith;
      from = sym (ap (λ (m : Message). m.from) same);
      to = sym (ap (λ (m : Message). m.to) same);
      number = some_number (circuit_opened (number_at route i)) w (number_at route i) k refl (ap (λ (m : Message). m.said) same) q;
    }
answer_at n route (denied zero fault) x y k w f h q = absurd (cc)
answer_at n route (denied (suc i) fault) x y k w f h q =
    let same : back_to route i (circuit_refused (number_at route i) fault) ≡ message x y w = some_same _ _ h in
    let g : suc i ≤ length route.numbers = f in
    record {
      place = i;
      within = omega arith;
      from = sym (ap (λ (m : Message). m.from) same);
      to = sym (ap (λ (m : Message). m.to) same);
      number = some_number (circuit_refused (number_at route i) fault) w (number_at route i) k refl (ap (λ (m : Message). m.said) same) q;
    }

pub next_place : (route : Route) (i : ℕ) → core_at route (i + 1) ≡ core_at route (suc i)
next_place route i = ap (core_at route) (omega arith)

-- another answer with the number of a link of the route is its own; so none comes twice
pub answers_unlike : (b : Board) → Known b → (n : ℕ) (route : Route) → b.routes n ≡ Some route → (x y a d : ℕ) (m : MonitorLabel)
    → due_message n route ≡ Some (message a d m) → ((x ≡ a) × (y ≡ d) → ⊥) → (k : ℕ) → AnswerAt route x y k → (w : MonitorLabel) → Has (b.said x y) w
    → answer_number w ≡ Some k → ⊥
answers_unlike b known n route at x y a d m due apart k is w h q =
    let (o, (other, (there, its))) = known.fits.messages x y w h in
    let its_at = answer_at o other other.verdict x y k w (known.routes o other there).verdict its q in
    let one : OneNumber other route its_at.place is.place =
    record {
      first = its_at.within;
      second = is.within;
      from = sym its_at.to ∙ is.to;
      to = next_place other its_at.place ∙ sym its_at.from ∙ is.from ∙ sym (next_place route is.place);
      number = sym its_at.number ∙ is.number;
    } in
    let same : o ≡ n = known.once o n other route its_at.place is.place there at one in
    let mine : other ≡ route = some_is (b.routes n) other route (ap b.routes (sym same) ∙ there) at in
    let twice : message a d m ≡ message x y w =
    some_is (due_message n route) _ _ due (ap (λ (r : Route). due_message n r) (sym mine) ∙ ap (λ (i : ℕ). due_message i other) (sym same) ∙ its) in
    apart (sym (ap (λ (z : Message). z.from) twice), sym (ap (λ (z : Message). z.to) twice))

-- ---- a message is heard

pub record Hears (b c : Board) (n : ℕ) (route after : Route) (a d : ℕ) (m : MonitorLabel) (g : ℕ → ℕ → List MonitorLabel) (x y : ℕ) (new : Option MonitorLabel) : Type 0 where
  pub was : b.routes n ≡ Some route
  pub is : c.routes n ≡ Some after
  pub due : due_message n route ≡ Some (message a d m)
  pub takes : Takes b.said g a d m
  pub puts : Puts g c.said x y new
  pub new_due : (w : MonitorLabel) → new ≡ Some w → due_message n after ≡ Some (message x y w)
  pub new_at : (w : MonitorLabel) (k : ℕ) → new ≡ Some w → answer_number w ≡ Some k → AnswerAt route x y k
  pub apart : (x ≡ a) × (y ≡ d) → ⊥

pub heard_fits : (b c : Board) (n : ℕ) (route after : Route) (a d : ℕ) (m : MonitorLabel) (g : ℕ → ℕ → List MonitorLabel) (x y : ℕ) (new : Option MonitorLabel)
    → Known b → Changes b c n → Own c n → Hears b c n route after a d m g x y new → Fits c
heard_fits b c n route after a d m g x y new known ch own h = record {
  messages = messages;
  answers = put_once g c.said x y new h.puts (taken_once b.said g a d m h.takes known.fits.answers)
      (λ w is k q z i j. answers_unlike b known n route h.was x y a d m h.due h.apart k (h.new_at w k is q) z (left x y z i).0 j);
  stand = stand_kept b c n ch known.fits own;
  due = due_kept b c n ch known.fits own;
  wait = wait_kept b c n ch known own;
}
  where
    left : (u v : ℕ) (w : MonitorLabel) → Has (g u v) w → Has (b.said u v) w × (message u v w ≡ message a d m → ⊥)
    left u v w i = taken_left b.said g a d m h.takes (known.lone a d) (known.fits.answers a d) u v w i

    old : (u v : ℕ) (w : MonitorLabel) → Has (g u v) w → MessageDue c (message u v w)
    old u v w i =
        let (there, unlike) = left u v w i in
        let (o, (other, (at, due))) = known.fits.messages u v w there in
        elim (same_or o n) [
          | inr away ↦ (o, (other, (ch.others o away ∙ at, due)))
          | inl e ↦
              (let mine : other ≡ route = some_is (b.routes n) other route (ap b.routes (sym e) ∙ at) h.was in
              absurd (unlike (some_is (due_message n route) _ _ (ap (λ (r : Route). due_message n r) (sym mine) ∙ ap (λ (i : ℕ). due_message i other) (sym e) ∙ due) h.due)))
        ]

    messages : (u v : ℕ) (w : MonitorLabel) → Has (c.said u v) w → MessageDue c (message u v w)
    messages u v w i = elim (put_has g c.said x y new h.puts u v w i) [
      | inl j ↦ old u v w j
      | inr (e, (f, is)) ↦ (n, (after, (h.is, h.new_due w is ∙ ap (λ (z : ℕ). Some (message z y w)) (sym e) ∙ ap (λ (z : ℕ). Some (message u z w)) (sym f))))
    ]

-- ---- a circuit is begun

pub begun_fits : (b c : Board) (n : ℕ) (after : Route) (x y : ℕ) (w : MonitorLabel) → Known b → Changes b c n → Own c n → b.routes n ≡ None → c.routes n ≡ Some after
    → Puts b.said c.said x y (Some w) → due_message n after ≡ Some (message x y w) → answer_number w ≡ None → Fits c
begun_fits b c n after x y w known ch own none is puts due quiet = record {
  messages = messages;
  answers = put_once b.said c.said x y (Some w) puts known.fits.answers
      (λ z e k q v i j. absurd (let f : w ≡ z = cc in no_answer w z k quiet f q));
  stand = stand_kept b c n ch known.fits own;
  due = due_kept b c n ch known.fits own;
  wait = wait_kept b c n ch known own;
}
  where
    messages : (u v : ℕ) (z : MonitorLabel) → Has (c.said u v) z → MessageDue c (message u v z)
    messages u v z i = elim (put_has b.said c.said x y (Some w) puts u v z i) [
      | inl j ↦
          (let (o, (other, (at, its))) = known.fits.messages u v z j in
          elim (same_or o n) [
            | inr away ↦ (o, (other, (ch.others o away ∙ at, its)))
            | inl e ↦ absurd (let f : None ≡ Some other = sym none ∙ ap b.routes (sym e) ∙ at in cc)
          ])
      | inr (e, (f, k)) ↦ (
        n,
        (
          after,
          (
            is,
            due ∙ (let l : w ≡ z = cc in ap (λ (m : MonitorLabel). Some (message x y m)) l)
                ∙ ap (λ (p : ℕ). Some (message p y z)) (sym e) ∙ ap (λ (p : ℕ). Some (message u p z)) (sym f),
          ),
        ),
      )
    ]

-- ---- nothing changes

pub record Same (b c : Board) : Type 0 where
  pub routes : (n : ℕ) → c.routes n ≡ b.routes n
  pub places : (core neighbour l : ℕ) → b.places core neighbour ≡ Some l → c.places core neighbour ≡ Some l
  pub kept : (key : Key) (hop : Hop) → b.hops key ≡ Some hop → c.hops key ≡ Some hop
  pub were : (key : Key) (hop : Hop) → c.hops key ≡ Some hop → b.hops key ≡ Some hop
  pub said : (x y : ℕ) → c.said x y ≡ b.said x y

pub same_fits : (b c : Board) → Same b c → Fits b → Fits c
same_fits b c s f = record {
  messages = λ x y m h.
      let (n, (route, (at, due))) = f.messages x y m (subst (λ (ms : List MonitorLabel). Has ms m) (s.said x y) h) in
      (n, (route, (s.routes n ∙ at, due)));
  answers = λ x y. subst (λ (ms : List MonitorLabel). NoRepeat (filter_map answer_number ms)) (sym (s.said x y)) (f.answers x y);
  stand = λ n route q. on_board route (f.stand n route (sym (s.routes n) ∙ q));
  due = λ key hop q.
      let (route, at, due) = f.due key hop (s.were key hop q) in
      (route, s.routes hop.binding ∙ at, due_on b c key hop hop.binding route s.places due);
  wait = λ n route q j h. let (hop, there, bare) = f.wait n route (sym (s.routes n) ∙ q) j h in (hop, s.kept _ hop there, bare);
}
  where
    stands : (key : Key) (n : ℕ) (leads : Leads) → Stands b key n leads → Stands c key n leads
    stands key n leads x = record {
      hop = x.hop;
      there = s.kept key x.hop x.there;
      binding_is = x.binding_is;
      way = says_on b c key.core x.hop.way leads (s.places key.core) x.way;
    }

    on_board : {n : ℕ} (route : Route) → StandOn b n route → StandOn c n route
    on_board route x = record {
      near = λ j p q. stands _ _ _ (x.near j p q);
      far = λ j p q. stands _ _ _ (x.far j p q);
    }

-- nothing is there
pub empty_fits : (c : Board) → ((n : ℕ) → c.routes n ≡ None) → ((key : Key) → c.hops key ≡ None) → ((x y : ℕ) → c.said x y ≡ []) → Fits c
empty_fits c routes hops said = record {
  messages = λ x y m h. absurd (has_none (c.said x y) m (said x y) h);
  answers = λ x y. subst (λ (ms : List MonitorLabel). NoRepeat (filter_map answer_number ms)) (sym (said x y)) tt;
  stand = λ n route q. absurd (no_route n route q);
  due = λ key hop q. absurd (let e : None ≡ Some hop = sym (hops key) ∙ q in cc);
  wait = λ n route q. absurd (no_route n route q);
}
  where
    no_route : (n : ℕ) (route : Route) → c.routes n ≡ Some route → ⊥
    no_route n route q = let e : None ≡ Some route = sym (routes n) ∙ q in absurd (cc)
