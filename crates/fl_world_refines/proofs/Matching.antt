-- Labels and the fragments that stand for them, one for one.
use Rattle.std.proofs.Common.{◌≡◌, refl, sym, ◌∙◌, ap, ℕ, ◌^◌, ◌/◌, ◌%◌, ◌==◌, ◌&&◌, Bool, true, false, List, [], ◌∷◌, ◌++◌, map, slice_get, Option, Some, None, arith}
use Rattle.std.specs.List.{list_all}
use Rattle.std.proofs.lemmas.List.{map_push}
use Rattle.std.proofs.lemmas.Option.{same_Some}
use Rattle.fl_base.specs.declared.fragment.Frag.{Frag}
use Rattle.fl_base.specs.Control.{bare, told_of, is_ack_only, control_word}
use Rattle.fl_link.proofs.Conserved.{bare-ack}
use Rattle.fl_ring.specs.Duo.{acknowledgement}
use Rattle.fl_value_data.specs.Value.{TheCall}
use Rattle.fl_monitor.specs.Intermon.{call_for}
use Rattle.fl_model.specs.Rings.{Label, next_of, says, acknowledges, RingLabel}
use Rattle.fl_model.specs.Standing.{labels_of}
use Rattle.fl_world_refines.specs.Fragments.{Streams, frag_of, standing, AreOf, said_frag, monitor_frag, message_of}
use Rattle.fl_world_refines.specs.Rings.{numbers_told, numbers_due}
use Rattle.fl_world_refines.specs.RingLaws.{AllCarried, is_data}

pub same_heads : {A : Type 0} (x y : A) (xs ys : List A) → x ∷ xs ≡ y ∷ ys → x ≡ y
same_heads x y xs ys h = cc

pub same_tails : {A : Type 0} (x y : A) (xs ys : List A) → x ∷ xs ≡ y ∷ ys → xs ≡ ys
same_tails x y xs ys h = cc

-- ---- what is carried

no_acknowledgement : (first : Bool) (msg circuit : ℕ) → (control_word first msg circuit / 2 % 2 ^ 47 == 2) ≡ false
no_acknowledgement true msg circuit = grind arith
no_acknowledgement false msg circuit = grind arith

data_with : (b c : Bool) → b ≡ false → (b && c) ≡ false
data_with b c e = ap (λ (x : Bool). x && c) e

-- a fragment of a call never only acknowledges
pub data_control : (words : List ℕ) (first : Bool) (msg circuit : ℕ)
    → is_ack_only (record { words = words; control = control_word first msg circuit }) ≡ false
data_control words first msg circuit = data_with _ (list_all (λ w. w == 0) words) (no_acknowledgement first msg circuit)

pub monitor_data : (c : TheCall) → is_ack_only (monitor_frag c) ≡ false
monitor_data c = data_control (monitor_frag c).words true c.msg 0

-- ---- which label it is

-- a label whose fragment isn't one that only acknowledges
pub data_label : (streams : Streams) (label : Label) (f : Frag) → is_ack_only f ≡ false → frag_of streams label ≡ Some (bare f) → is_data label ≡ true
data_label streams (next_of e k) f a h = refl
data_label streams (says m) f a h = refl
data_label streams acknowledges f a h =
    let e : acknowledgement ≡ bare f = same_Some acknowledgement (bare f) h in
    let t : is_ack_only (bare f) ≡ true = ap is_ack_only (sym e) in
    absurd (let u : true ≡ false = sym t ∙ bare-ack f ∙ a in cc)

-- a label whose fragment is
pub ack_label : (streams : Streams) (label : Label) (f : Frag) → AllCarried streams → is_ack_only f ≡ true → frag_of streams label ≡ Some (bare f) → label ≡ acknowledges
ack_label streams (next_of e k) f all a h =
    absurd (let u : true ≡ false = sym a ∙ sym (bare-ack f) ∙ (all e k (bare f) h).no_ack in cc)
ack_label streams (says m) f all a h =
    let e : said_frag m ≡ bare f = same_Some (said_frag m) (bare f) h in
    let t : is_ack_only (bare f) ≡ false = ap is_ack_only (sym e) ∙ monitor_data (call_for (message_of m)) in
    absurd (let u : true ≡ false = sym a ∙ sym (bare-ack f) ∙ t in cc)
ack_label streams acknowledges f all a h = refl

-- ---- lists

-- none stands where no label does
pub none_by : (streams : Streams) (ls : List RingLabel) (fs : List Frag) → AreOf streams (labels_of ls) fs → fs ≡ [] → slice_get ls 0 ≡ None
none_by streams [] fs a e = refl
none_by streams (l ∷ ls) [] a e = absurd (cc)
none_by streams (l ∷ ls) (f ∷ fs) a e = absurd (cc)

-- the first fragment is the first label's, and the others are the others'
pub record Meets (streams : Streams) (ls : List RingLabel) (f : Frag) (fs : List Frag) : Type 0 where
  pub first : RingLabel
  pub rest : List RingLabel
  pub are : ls ≡ first ∷ rest
  pub frag : frag_of streams first.label ≡ Some (bare f)
  pub others : AreOf streams (labels_of rest) fs
  pub number : told_of f.control ≡ first.told % 65536
  pub numbers : numbers_told fs ≡ numbers_due rest

pub meets : (streams : Streams) (ls : List RingLabel) (f : Frag) (fs : List Frag) → AreOf streams (labels_of ls) (f ∷ fs)
    → numbers_told (f ∷ fs) ≡ numbers_due ls → Meets streams ls f fs
meets streams [] f fs a b = absurd (cc)
meets streams (l ∷ ls) f fs a b = record {
  first = l;
  rest = ls;
  are = refl;
  frag = sym (same_heads (standing f) (frag_of streams l.label) (map standing fs) (map (frag_of streams) (labels_of ls)) a);
  others = same_tails (standing f) (frag_of streams l.label) (map standing fs) (map (frag_of streams) (labels_of ls)) a;
  number = same_heads (told_of f.control) (l.told % 65536) (numbers_told fs) (numbers_due ls) b;
  numbers = same_tails (told_of f.control) (l.told % 65536) (numbers_told fs) (numbers_due ls) b;
}

-- one more of each
pub are_more : (streams : Streams) (labels : List Label) (fs : List Frag) (label : Label) (f : Frag) → AreOf streams labels fs
    → frag_of streams label ≡ Some (bare f) → AreOf streams (labels ++ label ∷ []) (fs ++ f ∷ [])
are_more streams labels fs label f a h =
    map_push standing fs f
    ∙ ap (λ (xs : List (Option Frag)). xs ++ standing f ∷ []) a
    ∙ ap (λ (x : Option Frag). map (frag_of streams) labels ++ x ∷ []) (sym h)
    ∙ sym (map_push (frag_of streams) labels label)

pub numbers_more : (fs : List Frag) (ls : List RingLabel) (f : Frag) (l : RingLabel) → numbers_told fs ≡ numbers_due ls
    → told_of f.control ≡ l.told % 65536 → numbers_told (fs ++ f ∷ []) ≡ numbers_due (ls ++ l ∷ [])
numbers_more fs ls f l a h =
    map_push (λ (g : Frag). told_of g.control) fs f
    ∙ ap (λ (ns : List ℕ). ns ++ told_of f.control ∷ []) a
    ∙ ap (λ (n : ℕ). numbers_due ls ++ n ∷ []) h
    ∙ sym (map_push (λ (m : RingLabel). m.told % 65536) ls l)

-- more fragments of the same calls
pub are_still : (streams more : Streams) (labels : List Label) (fs : List Frag)
    → ((label : Label) (f : Frag) → frag_of streams label ≡ Some f → frag_of more label ≡ Some f)
    → AreOf streams labels fs → AreOf more labels fs
are_still streams more [] [] g a = refl
are_still streams more [] (f ∷ fs) g a = absurd (cc)
are_still streams more (label ∷ labels) [] g a = absurd (cc)
are_still streams more (label ∷ labels) (f ∷ fs) g a =
    let first : frag_of streams label ≡ Some (bare f)
    = sym (same_heads (standing f) (frag_of streams label) (map standing fs) (map (frag_of streams) labels) a) in
    let rest : AreOf more labels fs
    = are_still streams more labels fs g (same_tails (standing f) (frag_of streams label) (map standing fs) (map (frag_of streams) labels) a) in
    ap (λ (x : Option Frag). x ∷ map standing fs) (sym (g label (bare f) first)) ∙ ap (λ (xs : List (Option Frag)). frag_of more label ∷ xs) rest
