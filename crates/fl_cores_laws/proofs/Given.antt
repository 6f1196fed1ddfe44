-- Which openings a core gave numbers for, where nothing new is given, and where one number more is.
use Rattle.std.proofs.Common.{◌≡◌, ◌≢◌, ◌⊎◌, inl, inr, sym, ◌∙◌, subst, ℕ, List, Some}
use Rattle.fl_base.specs.declared.fragment.Frag.{Frag}
use Rattle.fl_base.specs.declared.identity.LinkId.{LinkId}
use Rattle.fl_base.specs.declared.identity.Circuit.{Circuit}
use Rattle.fl_hop.specs.Joined.{Sound}
use Rattle.fl_hop.specs.Numbers.{OpenedHere, OpenedThere, next_own}
use Rattle.fl_hop.specs.Table.{TheCircuits}
use Rattle.fl_hop.proofs.Counting.{next_is, never_next}
use Rattle.fl_monitor.specs.declared.opening.Opening.{Opening}
use Rattle.fl_monitor.specs.Monitors.{TheMonitor, IsQueuedMessage, asks}
use Rattle.fl_cores_laws.specs.Named.{Has, AsksFor, AreNamed}
use Rattle.fl_cores_laws.specs.Reasons.{Talk, AsksOnly, Origin, from_job, from_link, IsSince, IsGivenTo, AreGivenOnce, as_talk}
use Rattle.fl_cores_laws.proofs.Reasoned.{asks_parts, came_more, said_or_new}

-- ---- where an opening is from stays

pub since_on : (W W2 : ℕ → Opening → Type 0) (t : TheCircuits) (said said2 heard heard2 : ℕ → List Frag) (m m2 : TheMonitor) → ((l : ℕ) (o : Opening) → W l o → W2 l o)
    → ((l n : ℕ) → OpenedThere m.circuits l n → OpenedThere m2.circuits l n) → ((l : ℕ) (f : Frag) → Has f (heard l) → Has f (heard2 l))
    → (l : ℕ) (o : Opening) (origin : Origin) → IsSince W t (as_talk said heard m) l o origin → IsSince W2 t (as_talk said2 heard2 m2) l o origin
since_on W W2 t said said2 heard heard2 m m2 requested there more l o from_job w = requested l o w
since_on W W2 t said said2 heard heard2 m m2 requested there more l o (from_link x n) (taken, came, leads) = (there x n taken, came_more t heard heard2 more x n o came, leads)

-- what was given afterwards, and of which origins still nothing is
pub record GivenThen (W2 : ℕ → Opening → Type 0) (t : TheCircuits) (talk2 : Talk) (Unused : ℕ → ℕ → Type 0) : Type 0 where
  pub given : AreGivenOnce W2 t talk2
  pub keeps : (l n : ℕ) → Unused l n → (k i : ℕ) (a : OpenedHere talk2.monitor.circuits k i) → (given.given k i a).origin ≢ from_link l n

module _ (W W2 : ℕ → Opening → Type 0) (t : TheCircuits) (said said2 heard heard2 : ℕ → List Frag) (m m2 : TheMonitor) (given : AreGivenOnce W t (as_talk said heard m))
    (since : (l : ℕ) (o : Opening) (origin : Origin) → IsSince W t (as_talk said heard m) l o origin → IsSince W2 t (as_talk said2 heard2 m2) l o origin)
    (only : (l n : ℕ) (o : Opening) → OpenedHere m.circuits l n → AsksOnly said m l n o → AsksOnly said2 m2 l n o) where
  abbrev pub Unused : ℕ → ℕ → Type 0
  Unused l n = (k i : ℕ) (a : OpenedHere m.circuits k i) → (given.given k i a).origin ≢ from_link l n

  -- ---- nothing new is given

  pub none_given : ((l n : ℕ) → OpenedHere m2.circuits l n → OpenedHere m.circuits l n) → GivenThen W2 t (as_talk said2 heard2 m2) Unused
  none_given old = record {
    given = record {
      given = λ l n a. (let x = given.given l n (old l n a) in
          record { opening = x.opening; origin = x.origin; since = since l x.opening x.origin x.since; only = only l n x.opening (old l n a) x.only });
      once = λ l n k i a b bindings origins. given.once l n k i (old l n a) (old k i b) bindings origins;
    };
    keeps = λ l n none k i a is. none k i (old k i a) is;
  }

  -- ---- one number more, of a link

  module _ (x d : ℕ) (one : IsGivenTo W2 t (as_talk said2 heard2 m2) x d)
      (fresh : (l n : ℕ) (a : OpenedHere m.circuits l n) → (given.given l n a).opening.binding ≡ one.opening.binding → (given.given l n a).origin ≡ one.origin → ⊥) where
    abbrev IsNew : ℕ → ℕ → Type 0
    IsNew l n = OpenedHere m.circuits l n ⊎ ((l ≡ x) × (n ≡ d))

    abbrev its : (l n : ℕ) → IsNew l n → IsGivenTo W2 t (as_talk said2 heard2 m2) l n
    its l n (inl a) = (let y = given.given l n a in
        record { opening = y.opening; origin = y.origin; since = since l y.opening y.origin y.since; only = only l n y.opening a y.only })
    its l n (inr is) = record {
      opening = one.opening;
      origin = one.origin;
      since = subst (λ (k : ℕ). IsSince W2 t (as_talk said2 heard2 m2) k one.opening one.origin) (sym is.0) one.since;
      only = subst (λ (k : ℕ). AsksOnly said2 m2 k n one.opening) (sym is.0) (subst (λ (k : ℕ). AsksOnly said2 m2 x k one.opening) (sym is.1) one.only);
    }

    its_once : (l n k i : ℕ) (a : IsNew l n) (b : IsNew k i) → (its l n a).opening.binding ≡ (its k i b).opening.binding → (its l n a).origin ≡ (its k i b).origin → (l ≡ k) × (n ≡ i)
    its_once l n k i (inl a) (inl b) bindings origins = given.once l n k i a b bindings origins
    its_once l n k i (inl a) (inr is) bindings origins = absurd (fresh l n a bindings origins)
    its_once l n k i (inr is) (inl b) bindings origins = absurd (fresh k i b (sym bindings) (sym origins))
    its_once l n k i (inr is) (inr too) bindings origins = (is.0 ∙ sym too.0, is.1 ∙ sym too.1)

    its_none : (l n : ℕ) → Unused l n → (one.origin ≡ from_link l n → ⊥) → (k i : ℕ) (a : IsNew k i) → (its k i a).origin ≡ from_link l n → ⊥
    its_none l n none apart k i (inl a) is = none k i a is
    its_none l n none apart k i (inr new) is = apart is

    pub one_given : ((l n : ℕ) → OpenedHere m2.circuits l n → IsNew l n) → GivenThen W2 t (as_talk said2 heard2 m2) (λ l n. Unused l n × (one.origin ≡ from_link l n → ⊥))
    one_given new = record {
      given = record {
        given = λ l n a. its l n (new l n a);
        once = λ l n k i a b bindings origins. its_once l n k i (new l n a) (new k i b) bindings origins;
      };
      keeps = λ l n none k i a is. its_none l n none.0 none.1 k i (new k i a) is;
    }

-- ---- what asks for an opening under the next number of a link is all that ever did

pub only_new : (said heard : ℕ → List Frag) (m m2 : TheMonitor) → Sound m.circuits → AreNamed said heard m → (x : LinkId) (d : Circuit) (o : Opening)
    → IsQueuedMessage (record { link = x; message = asks d o }) m.outboxes m2.outboxes → next_own m.circuits x.0 ≡ Some d.0 → AsksOnly said m2 x.0 d.0 o
only_new said heard m m2 sound named x d o put next f c y has is says_it = elim (said_or_new said m m2 x (asks d o) put x.0 f (asks c y) has says_it) [
  | inl old ↦
      (let asked : AsksFor f c y.binding = record { service = y.service; path = y.path; says = says_it } in
      let here : OpenedHere m.circuits x.0 c.0 = (named.asked x.0 f c y.binding old asked).given in
      absurd (never_next m.circuits.core m.circuits.links sound.apart x.0 d.0 (next_is m.circuits.core m.circuits.links x.0 d.0 next)
      (inl (subst (λ (i : ℕ). OpenedHere m.circuits x.0 i) is here))))
  | inr new ↦ (asks_parts d c o y new.1).1
]
