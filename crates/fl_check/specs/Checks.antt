-- What a tree stands for, and which fault is answered where it stands for nothing.
use Rattle.std.specs.Prelude.{◌≡◌, ◌≤◌, ℕ, List, [], ◌∷◌, ◌++◌, All, Contains, Option, Some, None}
use Rattle.std.specs.Prelude.{option_map, min}
use Rattle.fl_interface.specs.Types.{TheInterface}
use Rattle.fl_check.specs.Known.{nothing_declared, after_all}
use Rattle.fl_check.specs.Places.{TextPlace, places_from}
use Rattle.fl_parse.specs.Tree.{TheTree}

-- all places of a tree, in the order in which they are looked at
abbrev pub places : TheTree → List TextPlace
places tree = places_from nothing_declared tree.declarations

-- no rule is broken at a place
abbrev pub IsSound : TextPlace → Type 0
IsSound p = p.broken ≡ []

-- the tree's name, and the messages of its declarations with each type's name replaced by its type
abbrev pub interface_from : TheTree → TheInterface
interface_from tree = record { name = tree.name.text; messages = (after_all nothing_declared tree.declarations).messages }

-- a tree at which no rule is broken stands for that interface
abbrev pub StandsFor : TheTree → TheInterface → Type 0
StandsFor tree i = All IsSound (places tree) × (i ≡ interface_from tree)

-- the first place at which a rule is broken, and the least number of those broken there
pub record FirstFault (ps : List TextPlace) (number at : ℕ) : Type 0 where
  pub prefix : List TextPlace
  pub here : TextPlace
  pub rest : List TextPlace
  pub stands : ps ≡ prefix ++ here ∷ rest
  pub sound : All IsSound prefix
  pub place : here.at ≡ at
  pub broken : Contains here.broken number
  pub least : All (λ n. number ≤ n) here.broken

-- what checking comes to: an interface, or a fault's number and offset
pub data CheckOutcome : Type 0 where
  checked : TheInterface → CheckOutcome
  check_fault : ℕ → ℕ → CheckOutcome

-- a tree stands for an interface, or has a first fault
abbrev pub Checks : TheTree → CheckOutcome → Type 0
Checks tree (checked i) = StandsFor tree i
Checks tree (check_fault number at) = FirstFault (places tree) number at

-- ---- for calls that look at a part of the places

-- a fault's number and offset
pub record Fault : Type 0 where
  pub number : ℕ
  pub at : ℕ

-- the least of several numbers
abbrev pub least_of : List ℕ → Option ℕ
least_of [] = None
least_of (n ∷ ns) = elim (least_of ns) as (λ _. Option ℕ) [ None ↦ Some n | Some m ↦ Some (min n m) ]

-- the least number of the rules broken at a place, with its offset; none where no rule is broken
abbrev pub fault_at : TextPlace → Option Fault
fault_at p = option_map (λ n. record { number = n; at = p.at }) (least_of p.broken)

-- the first fault at these places
unfoldable pub first_fault : List TextPlace → Option Fault
first_fault [] = None
first_fault (p ∷ ps) = elim (fault_at p) as (λ _. Option Fault) [ None ↦ first_fault ps | Some f ↦ Some f ]
