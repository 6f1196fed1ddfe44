-- Numbers that are counted as given, before and after one more is.
use Rattle.std.proofs.Common.{◌≡◌, ◌⊎◌, inl, inr, refl, sym, ap, ◌∙◌, subst, ℕ, ◌+◌, ◌≤◌, List, slice_get, slice_set, Option, Some, None, arith}
use Rattle.std.proofs.lemmas.Bool.{cases_eq}
use Rattle.fl_hop.specs.declared.links.LinkState.{LinkState}
use Rattle.fl_hop.specs.Numbers.{IsAmong, IsOpened, IsTaken, number, with_opening, with_taking, changed, count_opening, count_taking}
use Rattle.fl_hop.proofs.Counting.{Next, Due, counted_opening}
use Rattle.fl_hop.proofs.Lists.{set_cases, set_here, set_there}

module _ (core : ℕ) (links : List LinkState) (m l n : ℕ) where
  -- an opening of this core's takes none
  pub taken_still : (o : Option LinkState) → slice_get links m ≡ o → IsTaken core (changed with_opening links m o) l n → IsTaken core links l n
  taken_still None at x = x
  taken_still (Some a) at x = elim (set_cases links m (with_opening a) l x.link x.there) [
    | inl p ↦ record {
      link = a;
      there = ap (slice_get links) p.0 ∙ at;
      among = subst (λ (y : LinkState). IsAmong y.neighbour.0 core y.taken n) p.1 x.among;
    }
    | inr p ↦ record { link = x.link; there = p.1; among = x.among }
  ]

  -- where one more is taken, it is one of before or that
  pub record IsNewest : Type 0 where
    pub link_is : l ≡ m
    pub link : LinkState
    pub there : slice_get links m ≡ Some link
    pub number_is : n ≡ number link.neighbour.0 core link.taken

  newest : (a : LinkState) → slice_get links m ≡ Some a → l ≡ m → IsAmong a.neighbour.0 core (a.taken + 1) n → IsTaken core links l n ⊎ IsNewest
  newest a at same (k, less, is) = elim (cases_eq k a.taken) [
    | inl last ↦ inr (record { link_is = same; link = a; there = at; number_is = is ∙ ap (number a.neighbour.0 core) last })
    | inr other ↦ inl (record { link = a; there = ap (slice_get links) same ∙ at; among = (k, omega (arith, less, other), is) })
  ]

  pub taken_before : (o : Option LinkState) → slice_get links m ≡ o → IsTaken core (changed with_taking links m o) l n → IsTaken core links l n ⊎ IsNewest
  taken_before None at x = inl x
  taken_before (Some a) at x = elim (set_cases links m (with_taking a) l x.link x.there) [
    | inl p ↦ newest a at p.0 (subst (λ (y : LinkState). IsAmong y.neighbour.0 core y.taken n) p.1 x.among)
    | inr p ↦ inl (record { link = x.link; there = p.1; among = x.among })
  ]

-- the newest is the one that was due
pub newest_due : (core : ℕ) (links : List LinkState) (m l n c : ℕ) → Due core links m c → IsNewest core links m l n → n ≡ c
newest_due core links m l n c due x =
    let both : Some x.link ≡ Some due.link = sym x.there ∙ due.there in
    let same : x.link ≡ due.link = cc in
    x.number_is ∙ ap (λ (a : LinkState). number a.neighbour.0 core a.taken) same ∙ due.is

-- the next number is given once it is counted
pub opened_new : (core : ℕ) (links : List LinkState) (l n : ℕ) → Next core links l n → IsOpened core (count_opening links l) l n
opened_new core links l n x =
    subst (λ v. IsOpened core v l n) (sym (counted_opening core links l n x))
    (record { link = with_opening x.link; there = set_here links l x.link (with_opening x.link) x.there; among = (x.link.opened, omega arith, sym x.is) })

-- and is still next where one is taken
next_taken : (core : ℕ) (links : List LinkState) (l m n : ℕ) (o : Option LinkState) → slice_get links l ≡ o → Next core links m n → Next core (changed with_taking links l o) m n
next_taken core links l m n None at x = x
next_taken core links l m n (Some a) at x = elim (cases_eq m l) [
  | inl same ↦ (let both : Some x.link ≡ Some a = sym x.there ∙ ap (slice_get links) same ∙ at in let one : x.link ≡ a = cc in record {
    link = with_taking a;
    there = ap (slice_get (slice_set links l (with_taking a))) same ∙ set_here links l a (with_taking a) at;
    few = subst (λ (y : LinkState). y.opened ≤ 1022) one x.few;
    is = sym (ap (λ (y : LinkState). number core y.neighbour.0 y.opened) one) ∙ x.is;
  })
  | inr other ↦ record { link = x.link; there = set_there links l (with_taking a) m x.link x.there other; few = x.few; is = x.is }
]

pub next_still : (core : ℕ) (links : List LinkState) (l m n : ℕ) → Next core links m n → Next core (count_taking links l) m n
next_still core links l m n x = next_taken core links l m n (slice_get links l) refl x
