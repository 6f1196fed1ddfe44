-- A script's rows so far are no more than the items that were read.
use Rattle.std.proofs.Common.{◌≡◌, ℕ, suc, ◌+◌, ◌≤◌, List, [], ◌∷◌, Option, length, refl, arith}
use Rattle.std.specs.Prelude.{◌<◌, IfErr, Result, Ok, Err}
use Rattle.fl_script_lines.specs.Items.{Item, ItemsOf}
use Rattle.flounder_chart.specs.declared.fault.ChartFault.{ChartFault}
use Rattle.flounder_chart.specs.declared.fault.ChartFault.TheVariants.{TooLong, TooManyRows, Memory}
use Rattle.flounder_chart.specs.Faults.{HasMany, IsFaultOf, IsFaultOfRows}

-- whatever items the rest has, the whole script has those and one for each row
pub record RowsSoFar (script rest : List ℕ) (rows : ℕ) : Type 0 where
  pub back : (items : List Item) → ItemsOf rest items → (all : List Item) × (ItemsOf script all × (rows + length items ≤ length all))

pub none_read : (script : List ℕ) → RowsSoFar script script 0
none_read script = record { back = λ items h. (items, (h, omega arith)) }

pub one_read : (script rest behind : List ℕ) (part : Item) (rows more : ℕ) → RowsSoFar script rest rows
    → ((items : List Item) → ItemsOf behind items → ItemsOf rest (part ∷ items)) → more ≤ rows + 1 → RowsSoFar script behind more
one_read script rest behind part rows more so_far next one = record {
  back = λ items h.
      let whole = so_far.back (part ∷ items) (next items h) in
      let least : rows + suc (length items) ≤ length whole.0 = whole.1.1 in
      (whole.0, (whole.1.0, omega (arith, least, one)));
}

pub all_read : (script rest : List ℕ) (rows : ℕ) → RowsSoFar script rest rows → length rest ≡ 0
    → (items : List Item) × (ItemsOf script items × (rows ≤ length items))
all_read script [] rows so_far e =
    let whole = so_far.back [] refl in
    (whole.0, (whole.1.0, omega (arith, whole.1.1)))
all_read script (b ∷ rest) rows so_far e = absurd (omega (arith, e))

-- a fault of a script's rows is one of the script
fault_of_rows : (script : List ℕ) (rows : ℕ) (count : Option ℕ) (fault : ChartFault) → length script ≤ 1048576
    → (items : List Item) × (ItemsOf script items × (rows ≤ length items)) → IsFaultOfRows rows count fault → IsFaultOf script count fault
fault_of_rows script rows count TooLong fits all is = absurd is
fault_of_rows script rows count TooManyRows fits all is =
    let few : rows ≤ length all.0 = all.1.1 in
    let many : 5000 < rows = is.1 in
    let has : HasMany script = (all.0, all.1.0, omega (arith, few, many)) in
    (fits, (is.0, has))
fault_of_rows script rows count Memory fits all is = fits

pub faults_of_rows : {A : Type 0} (r : Result A ChartFault) (script : List ℕ) (rows : ℕ) (count : Option ℕ) → length script ≤ 1048576
    → (items : List Item) × (ItemsOf script items × (rows ≤ length items)) → IfErr r (λ fault. IsFaultOfRows rows count fault) → IfErr r (λ fault. IsFaultOf script count fault)
faults_of_rows (Ok x) script rows count fits all is = tt
faults_of_rows (Err fault) script rows count fits all is = fault_of_rows script rows count fault fits all is
