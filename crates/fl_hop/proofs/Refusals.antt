-- What is due of an opening, by the tests that were made of it.
use Rattle.std.proofs.Common.{◌≡◌, ◌≢◌, sym, ap, ◌∙◌, ℕ, ◌<◌, ◌≤◌, ◌==◌, nat_lt, Bool, true, false, if◌then◌else◌, List, length, Option, Some, None, option_map, arith}
use Rattle.std.proofs.lemmas.Bool.Decides.{nat_tests}
use Rattle.slab.specs.Slab.{Slab}
use Rattle.fl_base.specs.declared.identity.Circuit.{Circuit}
use Rattle.fl_hop.specs.declared.entry.Cell.{Cell}
use Rattle.fl_hop.specs.declared.entry.Entry.{Entry}
use Rattle.fl_hop.specs.declared.links.LinkState.{LinkState}
use Rattle.fl_hop.specs.declared.fault.HopFault.{HopFault}
use Rattle.fl_hop.specs.declared.fault.HopFault.TheVariants.{Misrouted, NoLink, UsedUp}
use Rattle.fl_hop.specs.Table.{TheCircuits, stands}
use Rattle.fl_hop.specs.Numbers.{next_own, next_due}
use Rattle.fl_hop.specs.Openings.{is_next, if_used_up, open_fault, pass_fault}
use Rattle.fl_hop.specs.Slots.{table_of}
use Rattle.fl_hop.proofs.Cells.{less_is, cond_true, cond_false}

-- whether a table has a link, by the numbers that were compared
pub on_link : (core : ℕ) (links : List LinkState) (cells : List Cell) (s : Slab Entry) (t : TheCircuits) → table_of core links cells s ≡ t → (l p n m : ℕ) → p ≡ l → n ≡ m → m ≡ length links → p < n → l < length t.links
on_link core links cells s t is l p n m e f g less =
    let same : length links ≡ length t.links = ap (λ (u : TheCircuits). length u.links) is in
    omega (arith, e, f, g, less, same)

pub off_link : (core : ℕ) (links : List LinkState) (cells : List Cell) (s : Slab Entry) (t : TheCircuits) → table_of core links cells s ≡ t → (l p n m : ℕ) → p ≡ l → n ≡ m → m ≡ length links → n ≤ p → length t.links ≤ l
off_link core links cells s t is l p n m e f g past =
    let same : length links ≡ length t.links = ap (λ (u : TheCircuits). length u.links) is in
    omega (arith, e, f, g, past, same)

-- this core's next number on a link, as it was told
pub told_none : (o : Option Circuit) (n : Option ℕ) → option_map (λ (c : Circuit). c.0) o ≡ n → o ≡ None → if_used_up n ≡ Some UsedUp
told_none o n e none =
    let number : Option Circuit → Option ℕ = λ p. option_map (λ (c : Circuit). c.0) p in
    ap (λ m. if_used_up m) (sym e ∙ ap number none)

pub told_some : (o : Option Circuit) (n : Option ℕ) (c : Circuit) → option_map (λ (x : Circuit). x.0) o ≡ n → o ≡ Some c → n ≡ Some c.0
told_some o n c e some =
    let number : Option Circuit → Option ℕ = λ p. option_map (λ (x : Circuit). x.0) p in
    sym e ∙ ap number some

pub if_told : (n : Option ℕ) (c : ℕ) → n ≡ Some c → if_used_up n ≡ None
if_told n c e = ap (λ m. if_used_up m) e

-- ---- an opening of this core's own

pub open_nowhere : (t : TheCircuits) (l binding : ℕ) → length t.links ≤ l → open_fault t l binding ≡ Some NoLink
open_nowhere t l binding past =
    let none : nat_lt l (length t.links) ≡ false = grind (arith, nat_tests, past) in
    let there : Option HopFault = if stands t binding then Some Misrouted else if_used_up (next_own t l) in
    cond_false (nat_lt l (length t.links)) there (Some NoLink) none

pub open_stands : (t : TheCircuits) (l binding : ℕ) (b : Bool) → l < length t.links → b ≡ stands t binding → b ≡ true → open_fault t l binding ≡ Some Misrouted
open_stands t l binding b less e is =
    let last : Option HopFault = if_used_up (next_own t l) in
    let there : Option HopFault = if stands t binding then Some Misrouted else last in
    cond_true (nat_lt l (length t.links)) there (Some NoLink) (less_is l (length t.links) less) ∙ cond_true (stands t binding) (Some Misrouted) last (sym e ∙ is)

pub open_due : (t : TheCircuits) (l binding : ℕ) (b : Bool) → l < length t.links → b ≡ stands t binding → b ≡ false → open_fault t l binding ≡ if_used_up (next_own t l)
open_due t l binding b less e is =
    let last : Option HopFault = if_used_up (next_own t l) in
    let there : Option HopFault = if stands t binding then Some Misrouted else last in
    cond_true (nat_lt l (length t.links)) there (Some NoLink) (less_is l (length t.links) less) ∙ cond_false (stands t binding) (Some Misrouted) last (sym e ∙ is)

-- ---- the neighbour's, passed on

pub pass_due : (t : TheCircuits) (l c m binding : ℕ) (a b : Bool) → a ≡ is_next (next_due t l) c → a ≡ true → b ≡ stands t binding → b ≡ false → l ≢ m → m < length t.links → pass_fault t l c m binding ≡ if_used_up (next_own t m)
pass_due t l c m binding a b d next e is other less =
    let apart : (l == m) ≡ false = grind (arith, nat_tests, other) in
    let last : Option HopFault = if_used_up (next_own t m) in
    let there : Option HopFault = if nat_lt m (length t.links) then last else Some NoLink in
    let over : Option HopFault = if l == m then Some NoLink else there in
    let due : Option HopFault = if stands t binding then Some Misrouted else over in
    cond_true (is_next (next_due t l) c) due (Some Misrouted) (sym d ∙ next)
    ∙ cond_false (stands t binding) (Some Misrouted) over (sym e ∙ is)
    ∙ cond_false (l == m) (Some NoLink) there apart
    ∙ cond_true (nat_lt m (length t.links)) last (Some NoLink) (less_is m (length t.links) less)
