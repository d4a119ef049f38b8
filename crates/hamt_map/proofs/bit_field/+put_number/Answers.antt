use Rattle.std.proofs.Common.{◌∷◌, [], ◌++◌, ◌%◌, ap, sym, ◌∙◌, append_assoc, arith}
use Rattle.std.proofs.lemmas.Int.Digits.{digits_of_step}
use Rattle.hamt_map.proofs.bit_field.+put_number.Goals as goal

pub returns : goal.returns
returns t c =
    c.in_ok-push.ensures.items ∙ ap (λ xs. xs ++ (c.args.number % 256) ∷ []) c.in_ok-put_number.ensures ∙ append_assoc c.args.out.now.items _ _
    ∙ ap (λ xs. c.args.out.now.items ++ xs) (sym (digits_of_step 256 c.args.number (omega arith) (omega arith)))
