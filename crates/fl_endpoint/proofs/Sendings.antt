-- What is to be sent, as calls: one call more, and one fragment written.
use Rattle.std.proofs.Common.{◌≡◌, ℕ, ◌+◌, ◌-◌, ◌<◌, ◌≤◌, All, List, [], ◌∷◌, ◌++◌, map, drop, length, refl, sym, ap, subst, ◌∙◌, arith}
use Rattle.std.specs.List.{flat_map}
use Rattle.std.proofs.lemmas.List.{length-drop, drop-drop, map-append}
use Rattle.std.proofs.lemmas.List.Elements.{All-nil, All-cons, All-head, All-tail, All-push}
use Rattle.fl_base.specs.declared.fragment.Frag.{Frag}
use Rattle.fl_value_data.specs.Value.{TheCall}
use Rattle.fl_endpoint.specs.View.{TheOutgoing, nothing_to_send, queued, wrote}
use Rattle.fl_endpoint.specs.Accounts.{IsLeft}

-- what is left of a call
abbrev pub left_of : (TheCall → List Frag) → ℕ → TheCall → List TheCall → TheOutgoing
left_of frags number c waits = record { unwritten = drop number (frags c); count = length (frags c); waiting = map frags waits }

append_nil : {A : Type 0} (xs : List A) → xs ++ [] ≡ xs
append_nil [] = refl
append_nil (x ∷ xs) = ap (λ (ys : List _). x ∷ ys) (append_nil xs)

-- ---- one call more

pub record QueuedOne (frags : TheCall → List Frag) (P : TheCall → Type 0) (c : TheCall) (o : TheOutgoing) : Type 0 where
  pub calls : List TheCall
  pub all : All P calls
  pub number : ℕ
  pub left : IsLeft frags number calls (queued o (frags c))
  pub few : length o.waiting < 16 → length (queued o (frags c)).waiting ≤ 16
  -- it is accepted at once, or waits
  pub accepted : List TheCall
  pub fit : All P accepted
  pub at_once : o.unwritten ≡ [] → accepted ≡ c ∷ []
  pub sends : o.unwritten ++ flat_map frags accepted ≡ (queued o (frags c)).unwritten
  pub waits : o.waiting ++ frags c ∷ [] ≡ map frags accepted ++ (queued o (frags c)).waiting

queued_idle : (frags : TheCall → List Frag) (P : TheCall → Type 0) (c : TheCall) → 0 < length (frags c) → P c → QueuedOne frags P c nothing_to_send
queued_idle frags P c some p = record {
  calls = c ∷ [];
  all = All-cons P c [] p (All-nil P);
  number = 0;
  left = (some, refl);
  few = λ h. omega arith;
  accepted = c ∷ [];
  fit = All-cons P c [] p (All-nil P);
  at_once = λ e. refl;
  sends = append_nil (frags c);
  waits = refl;
}

queued_busy : (frags : TheCall → List Frag) (P : TheCall → Type 0) (c d : TheCall) (count : ℕ) (f : Frag) (rest : List Frag) (number : ℕ) (waits : List TheCall)
    → f ∷ rest ≡ drop number (frags d) → count ≡ length (frags d) → number < length (frags d) → P c → All P (d ∷ waits)
    → QueuedOne frags P c (record { unwritten = f ∷ rest; count = count; waiting = map frags waits })
queued_busy frags P c d count f rest number waits e n less p all = record {
  calls = d ∷ waits ++ c ∷ [];
  all = All-push P (d ∷ waits) c all p;
  number = number;
  left = (less, left_is e n (sym (map-append frags waits (c ∷ []))));
  few = λ h. subst (λ (k : ℕ). k ≤ 16) (sym (pushed (map frags waits) (frags c))) (omega (arith, h));
  accepted = [];
  fit = All-nil P;
  at_once = λ e. absurd cc;
  sends = append_nil (f ∷ rest);
  waits = refl;
} where
  pushed : (xs : List (List Frag)) (x : List Frag) → length (xs ++ x ∷ []) ≡ length xs + 1
  pushed [] x = refl
  pushed (y ∷ ys) x = let h = pushed ys x in omega (arith, h)

  left_is : {us vs : List Frag} {m k : ℕ} {xs ys : List (List Frag)} → us ≡ vs → m ≡ k → xs ≡ ys
      → ◌≡◌ {A = TheOutgoing} (record { unwritten = us; count = m; waiting = xs }) (record { unwritten = vs; count = k; waiting = ys })
  left_is a b c = cc

-- some fragments are left of a call of which not all are written
pub record Begins (xs : List Frag) : Type 0 where
  pub first : Frag
  pub others : List Frag
  pub is : first ∷ others ≡ xs

begins : (xs : List Frag) → 0 < length xs → Begins xs
begins [] h = absurd (omega (arith, h))
begins (x ∷ xs) h = record { first = x; others = xs; is = refl }

pub queued_one : (frags : TheCall → List Frag) (P : TheCall → Type 0) (c : TheCall) (number : ℕ) (calls : List TheCall) (o : TheOutgoing)
    → 0 < length (frags c) → P c → All P calls → IsLeft frags number calls o → QueuedOne frags P c o
queued_one frags P c number [] o some p all left = subst (QueuedOne frags P c) (sym left) (queued_idle frags P c some p)
queued_one frags P c number (d ∷ waits) o some p all left =
    let long : length (drop number (frags d)) ≡ length (frags d) - number = length-drop number (frags d) in
    let less = left.0 in
    let b = begins (drop number (frags d)) (omega (arith, long, less)) in
    subst (QueuedOne frags P c)
    (ap (λ (xs : List Frag). record { unwritten = xs; count = length (frags d); waiting = map frags waits }) b.is ∙ sym left.1)
    (queued_busy frags P c d (length (frags d)) b.first b.others number waits b.is refl left.0 p all)

-- ---- one fragment written

pub record WroteOne (frags : TheCall → List Frag) (P : TheCall → Type 0) (f : Frag) (rest : List Frag) (o : TheOutgoing) : Type 0 where
  pub calls : List TheCall
  pub all : All P calls
  pub number : ℕ
  pub left : IsLeft frags number calls (wrote rest o)
  pub few : length (wrote rest o).waiting ≤ length o.waiting
  -- the first that waited is accepted with the last fragment of a call
  pub accepted : List TheCall
  pub fit : All P accepted
  pub sends : o.unwritten ++ flat_map frags accepted ≡ f ∷ (wrote rest o).unwritten
  pub waits : o.waiting ++ [] ≡ map frags accepted ++ (wrote rest o).waiting

wrote_some : (frags : TheCall → List Frag) (P : TheCall → Type 0) (c : TheCall) (number : ℕ) (waits : List TheCall) (f g : Frag) (more : List Frag)
    → All P (c ∷ waits) → number < length (frags c) → drop number (frags c) ≡ f ∷ g ∷ more → WroteOne frags P f (g ∷ more) (left_of frags number c waits)
wrote_some frags P c number waits f g more all less e =
    let next : drop (number + 1) (frags c) ≡ g ∷ more = sym (drop-drop 1 number (frags c)) ∙ ap (drop 1) e in
    let long : length (frags c) - number ≡ length (f ∷ g ∷ more) = sym (length-drop number (frags c)) ∙ ap length e in
    let many : 2 ≤ length (f ∷ g ∷ more) = omega arith in
    record {
      calls = c ∷ waits;
      all = all;
      number = number + 1;
      left = (omega (arith, long, many), ap (λ (xs : List Frag). record { unwritten = xs; count = length (frags c); waiting = map frags waits }) (sym next));
      few = omega arith;
      accepted = [];
      fit = All-nil P;
      sends = append_nil (drop number (frags c)) ∙ e;
      waits = append_nil (map frags waits);
    }

wrote_last : (frags : TheCall → List Frag) (P : TheCall → Type 0) (c : TheCall) (number : ℕ) (waits : List TheCall) (f : Frag) → ((d : TheCall) → 0 < length (frags d))
    → All P (c ∷ waits) → drop number (frags c) ≡ f ∷ [] → WroteOne frags P f [] (left_of frags number c waits)
wrote_last frags P c number [] f some all e = record {
  calls = [];
  all = All-nil P;
  number = 0;
  left = refl;
  few = omega arith;
  accepted = [];
  fit = All-nil P;
  sends = append_nil (drop number (frags c)) ∙ e;
  waits = refl;
}
wrote_last frags P c number (d ∷ waits) f some all e = record {
  calls = d ∷ waits;
  all = All-tail P c (d ∷ waits) all;
  number = 0;
  left = (some d, refl);
  few = omega arith;
  accepted = d ∷ [];
  fit = All-cons P d [] (All-head P d waits (All-tail P c (d ∷ waits) all)) (All-nil P);
  sends = ap (λ (xs : List Frag). xs ++ (frags d ++ [])) e ∙ ap (λ (xs : List Frag). f ∷ xs) (append_nil (frags d));
  waits = append_nil (map frags (d ∷ waits));
}

pub wrote_one : (frags : TheCall → List Frag) (P : TheCall → Type 0) (number : ℕ) (calls : List TheCall) (o : TheOutgoing) (f : Frag) (rest : List Frag)
    → ((d : TheCall) → 0 < length (frags d)) → All P calls → IsLeft frags number calls o → o.unwritten ≡ f ∷ rest → WroteOne frags P f rest o
wrote_one frags P number [] o f rest some all left e = let k : o.unwritten ≡ [] = ap (λ (x : TheOutgoing). x.unwritten) left in absurd cc
wrote_one frags P number (c ∷ waits) o f (g ∷ more) some all left e =
    subst (WroteOne frags P f (g ∷ more)) (sym left.1)
    (wrote_some frags P c number waits f g more all left.0 (sym (ap (λ (x : TheOutgoing). x.unwritten) left.1) ∙ e))
wrote_one frags P number (c ∷ waits) o f [] some all left e =
    subst (WroteOne frags P f []) (sym left.1)
    (wrote_last frags P c number waits f some all (sym (ap (λ (x : TheOutgoing). x.unwritten) left.1) ∙ e))

-- ---- nothing waits where nothing is in transmission

pub idle_is : (frags : TheCall → List Frag) (number : ℕ) (calls : List TheCall) (o : TheOutgoing) → IsLeft frags number calls o → o.unwritten ≡ [] → o ≡ nothing_to_send
idle_is frags number [] o left e = left
idle_is frags number (c ∷ waits) o left e =
    let long : length (drop number (frags c)) ≡ length (frags c) - number = length-drop number (frags c) in
    let none : length (drop number (frags c)) ≡ 0 = ap length (sym (ap (λ (x : TheOutgoing). x.unwritten) left.1) ∙ e) in
    let less = left.0 in
    absurd (omega (arith, long, none, less))
