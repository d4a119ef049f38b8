use Rattle.hamt_map.proofs.AheadSteps.{link_is}
use Rattle.hamt_map.proofs.stepping.linked.Goals as goal

pub returns-in-Ok : goal.returns-in-Ok
returns-in-Ok c = λ cid is spelled_is. c.cid_of.ensures cid (link_is cid c.in-Ok.value c.args.pointer.now is c.in-Ok.ensures.found.0 c.in-Ok.ensures.found.1 spelled_is)
