use Rattle.fvm_run.proofs.OneAnswer.{one_answer_of}
use Rattle.fvm_run.proofs.laws.one_answer.Goals as goal

pub returns : goal.returns
returns c =
    one_answer_of (record { one = c.one_scenario.ensures.one; accepted = c.one_scenario.ensures.accepted; one_fault = c.one_scenario.ensures.one_fault })
    (record {
      one = c.one_module.ensures;
      read = λ bytes raw spells. (c.reading_is_the_grammar.ensures bytes raw).1 spells;
      valid = c.one_verdict.ensures.valid;
      one_fault = c.one_verdict.ensures.one_fault;
    })
