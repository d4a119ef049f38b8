use Rattle.std.proofs.Common.{ap, ◌∙◌}
use Rattle.std.specs.Result.{result_ok}
use Rattle.std.proofs.lemmas.Fmt.{parse-decimal}
use Rattle.fil_address.proofs.Decimals.{IsUtf8-decimal}
use Rattle.fil_address.proofs.parsing.number_in.Goals as goal

pub returns-in_default : goal.returns-in_default
returns-in_default c = λ n small is. absurd (c.in_default.ensures.cases.0 (IsUtf8-decimal c.args.text.now n small is))

pub returns : goal.returns
returns c = λ n small is. c.ok.ensures.value ∙ ap result_ok (parse-decimal 64 n c.in-Ok.written.now _ small small (c.in-Ok.ensures.cases.0 ∙ is) c.parse.ensures.value.0)
