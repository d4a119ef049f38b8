use Rattle.std.proofs.Common.{◌-◌, ap, drop, sym, ◌∙◌, arith}
use Rattle.std.proofs.lemmas.List.{length-drop, take_all}
use Rattle.std.specs.Int.Digits.{digits_of}
use Rattle.fil_base.proofs.Magnitude.{spelled_more, spelled_zero}
use Rattle.fil_base.proofs.amount.token_bytes.Goals as goal

pub returns-then-number-eq0 : goal.returns-then-number-eq0
returns-then-number-eq0 c =
    spelled_zero c.args.token c.new-out.result.items c.of.result (sym c.number-number.ensures.value ∙ c.if-number-eq0.true) c.new-out.ensures.items c.of.ensures

pub returns : goal.returns
returns c =
    let found = c.magnitude-start in
    let whole = take_all (12 - found.result.1) (drop found.result.1 found.result.0) (omega (arith, length-drop found.result.1 found.result.0)) in
    spelled_more c.args.token c.new-out.result.items c.push.new.self.items _ c.extend_from_slice.new.self.items c.of-2.result (λ zero_n. c.if-number-eq0.false (c.number-number.ensures.value ∙ zero_n)) c.new-out.ensures.items c.in_ok-push.ensures.items (whole ∙ (found.ensures.digits ∙ ap (λ n. digits_of 256 n) c.number-number.ensures.value)) c.in_ok-extend_from_slice.ensures.items c.of-2.ensures
