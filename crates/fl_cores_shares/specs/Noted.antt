-- What a side of a ring noted, in numbers.
use Rattle.std.specs.Prelude.{ℕ, Bool, true, List, []}
use Rattle.fl_cores_shares.specs.declared.side_record.FragmentWait.{FragmentWait}
use Rattle.fl_cores_shares.specs.declared.side_record.SideRecord.{SideRecord}

pub record TheSideRecord : Type 0 where
  -- how many fragments of the other side it saw, and how many it took
  pub seen : ℕ
  pub taken : ℕ
  -- where looks found nothing before, and how many did at the fragment that comes next
  pub missed : List FragmentWait
  pub missing : ℕ
  -- how many fragments of its own it put
  pub placed : ℕ
  -- where puts found no room before, and how many found none for the fragment that comes next
  pub refused : List FragmentWait
  pub refusing : ℕ
  -- whether memory for this was never refused
  pub is_whole : Bool

abbrev pub noted_of : SideRecord → TheSideRecord
noted_of r = record {
  seen = r.seen;
  taken = r.taken;
  missed = r.missed.items;
  missing = r.missing;
  placed = r.placed;
  refused = r.refused.items;
  refusing = r.refusing;
  is_whole = r.is_whole;
}

-- the record of a side that neither looked nor put
abbrev pub nothing_noted : TheSideRecord
nothing_noted = record {
  seen = 0;
  taken = 0;
  missed = [];
  missing = 0;
  placed = 0;
  refused = [];
  refusing = 0;
  is_whole = true;
}
