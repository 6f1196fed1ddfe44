use Rattle.std.proofs.Common.{refl}
use Rattle.std.specs.Prelude.{option_map}
use Rattle.flounder_commands.specs.Streams.{streams_of}
use Rattle.flounder_run.proofs.Doing.{performs_exec, performs_show, performs_compile, performs_cores, performs_chart, performs_header}
use Rattle.flounder_run.proofs.performing.perform.Goals as goal

pub returns-in-Exec : goal.returns-in-Exec
returns-in-Exec g c =
    rw c.in-Exec.is (record {
      done =
          performs_exec (g.F.FileStore.effects c.args.files.now) c.in-Exec.strict
          (streams_of g.R.Read.remaining g.W.Write.contents c.args.input.now c.run_script.new.input c.args.output.now c.run_script.new.output)
          c.run_script.result c.run_script.ensures.ran;
    })

pub returns-in-Show : goal.returns-in-Show
returns-in-Show g c =
    rw c.in-Show.is (record {
      done =
          performs_show (g.F.FileStore.effects c.args.files.now) (g.F.FileStore.effects c.show_file.new.files)
          (streams_of g.R.Read.remaining g.W.Write.contents c.args.input.now c.args.input.now c.args.output.now c.show_file.new.output)
          c.in-Show.file.now c.in-Show.names c.show_file.result refl c.show_file.ensures.shown;
    })

pub returns-in-Compile : goal.returns-in-Compile
returns-in-Compile g c =
    rw c.in-Compile.is (record {
      done =
          performs_compile (g.F.FileStore.effects c.args.files.now) (g.F.FileStore.effects c.compile_file.new.files)
          (streams_of g.R.Read.remaining g.W.Write.contents c.args.input.now c.args.input.now c.args.output.now c.args.output.now)
          c.in-Compile.file.now c.in-Compile.out.now c.compile_file.result refl refl c.compile_file.ensures.compiled;
    })

pub returns-in-Cores : goal.returns-in-Cores
returns-in-Cores g c =
    rw c.in-Cores.is (record {
      done =
          performs_cores (g.F.FileStore.effects c.args.files.now) (g.F.FileStore.effects c.cores_command.new.files)
          (streams_of g.R.Read.remaining g.W.Write.contents c.args.input.now c.args.input.now c.args.output.now c.cores_command.new.output)
          c.in-Cores.file.now c.in-Cores.turns (option_map (λ out. out.now) c.in-Cores.script) c.cores_command.result refl c.cores_command.ensures.ran;
    })

pub returns-in-Chart : goal.returns-in-Chart
returns-in-Chart g c =
    rw c.in-Chart.is (record {
      done =
          performs_chart (g.F.FileStore.effects c.args.files.now) (g.F.FileStore.effects c.chart_file.new.files)
          (streams_of g.R.Read.remaining g.W.Write.contents c.args.input.now c.args.input.now c.args.output.now c.chart_file.new.output)
          c.in-Chart.file.now (option_map (λ word. word.now) c.in-Chart.lines) c.chart_file.result refl c.chart_file.ensures.charted;
    })

pub returns-in-Header : goal.returns-in-Header
returns-in-Header g c =
    rw c.in-Header.is (record {
      done =
          performs_header (g.F.FileStore.effects c.args.files.now) (g.F.FileStore.effects c.header_file.new.files)
          (streams_of g.R.Read.remaining g.W.Write.contents c.args.input.now c.args.input.now c.args.output.now c.header_file.new.output)
          c.in-Header.file.now c.header_file.result refl c.header_file.ensures.headed;
    })
