use Rattle.std.proofs.Common.{sym, ap, ◌∙◌, option_map, string_bytes}
use Rattle.planning.specs.declared.asked.Asked.TheVariants.{File}
use Rattle.std.specs.Cmp.Lexicographic.{same_text}
use Rattle.planning.proofs.Words.{file_asked}
use Rattle.planning.proofs.asked.Asked.by.Goals as goal

pub returns-in_err-run-in-len2 : goal.returns-in_err-run-in-len2
returns-in_err-run-in-len2 c =
    file_asked string_bytes c.args.words.now c.in-len2.len_at_least c.in-len2.len_below c.word-item.result c.number-item.result c.word-item.is c.number-item.is
    c.as_str-in-len2.result.now (sym c.as_str.ensures.value ∙ same_text _ _ c.if-eq.ensures) c.as_str-in-len2.ensures.value c.parse.result c.parse.ensures.value.0 c.from_residual.result (c.from_residual.ensures ∙ ap (option_map File) (sym c.in_err-run-in-len2.was ∙ c.ok.ensures.value))

pub returns-in_ok-run-in-len2 : goal.returns-in_ok-run-in-len2
returns-in_ok-run-in-len2 c =
    file_asked string_bytes c.args.words.now c.in-len2.len_at_least c.in-len2.len_below c.word-item.result c.number-item.result c.word-item.is c.number-item.is
    c.as_str-in-len2.result.now (sym c.as_str.ensures.value ∙ same_text _ _ c.if-eq.ensures) c.as_str-in-len2.ensures.value c.parse.result c.parse.ensures.value.0 _ (ap (option_map File) (sym c.in_ok-run-in-len2.was ∙ c.ok.ensures.value))
