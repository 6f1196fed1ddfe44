use Rattle.flounder_args.proofs.WhatWordsAsk.{no_word, exec_word, exec_explain, exec_strict, exec_both, show_words, show_names_words, compile_words, cores_words, script_words, turns_missing, turns_refused, chart_words, lines_words, header_words, help_word, exec_help, show_help, compile_help, cores_help, chart_help, header_help, version_word}
use Rattle.flounder_args.proofs.law.law_what_words_ask.Goals as goal

pub returns : goal.returns
returns c = record {
  exec = λ name. (no_word name, exec_word name, exec_explain name, exec_strict name, exec_both name);
  show = λ name file h. (show_words name file h, show_names_words name file h);
  compile = compile_words;
  cores = λ name file turns h n. (cores_words name file turns h n, λ out k. script_words name file turns out h n k);
  turns = λ name file h. (turns_missing name file h, λ turns k other. turns_refused name file turns h k other);
  chart = λ name file h. (chart_words name file h, λ lines k. lines_words name file lines h k);
  header = header_words;
  help = λ name. (help_word name, exec_help name, show_help name, compile_help name, cores_help name, chart_help name, header_help name);
  version = version_word;
}
