-- What was read of a cores file, as the definitions have it. Public contracts name what a file and a text come to (`file_from`,
-- `outcome_of`); of `reading_of` the code alone speaks.
use Rattle.std.specs.Prelude.{map}
use Rattle.fl_model.specs.Views.{event_of}
use Rattle.fl_script_lines.specs.Told.{names_of}
use Rattle.fl_cores_file.specs.declared.reading.PartialCoresFile.{PartialCoresFile as RustReading}
use Rattle.fl_cores_file.specs.declared.file.CoresFile.{CoresFile as RustFile}
use Rattle.fl_cores_file.specs.declared.file.CoresText.{CoresText}
use Rattle.fl_cores_file.specs.declared.file.CoresText.TheVariants as text
use Rattle.fl_cores_file.specs.CoresFile.{Reading, CoresFile, FileOutcome, is_file, refused_at}
use Rattle.fl_cores_file.specs.Views.{job_of, draft_of}

abbrev pub reading_of : RustReading → Reading
reading_of r = record { names = names_of r.names; draft = draft_of r.draft }

abbrev pub file_from : RustFile → CoresFile
file_from f = record {
  cores = f.cores;
  setup = map event_of f.setup.items;
  jobs = map job_of f.jobs.items;
  names = names_of f.names;
  numbers = f.numbers.items;
}

abbrev pub outcome_of : CoresText → FileOutcome
outcome_of (text.File file) = is_file (file_from file)
outcome_of (text.Refused line number) = refused_at line number
