-- The numbers of the faults, as transcripts and messages name them.
use Rattle.std.specs.Prelude.{ℕ}
use Rattle.fl_link.specs.declared.fault.PutFault.{PutFault}
use Rattle.fl_link.specs.declared.fault.PutFault.TheVariants.{Full, Spent}
use Rattle.fl_link.specs.declared.fault.LinkFault.{LinkFault}
use Rattle.fl_link.specs.declared.fault.LinkFault.TheVariants.{BadSize, Memory}

-- why nothing was put
abbrev pub put_number : PutFault → ℕ
put_number Full = 30
put_number Spent = 33

-- why no link was made
abbrev pub link_number : LinkFault → ℕ
link_number BadSize = 32
link_number Memory = 99
