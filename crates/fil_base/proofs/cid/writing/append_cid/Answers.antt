use Rattle.std.proofs.lemmas.Result.{on_ok_weaker}
use Rattle.fil_base.proofs.Cids.{written_0, written_1}
use Rattle.fil_base.proofs.cid.writing.append_cid.Goals as goal

pub returns-then-version-eq0-clause-written : goal.returns-then-version-eq0-clause-written
returns-then-version-eq0-clause-written c =
    on_ok_weaker c.append_version0.result (written_0 c.args.cid.now c.version.result c.digest.result.now c.args.out.now.items c.append_version0.new.out.items c.version.ensures.value c.if-version-eq0.true c.digest.ensures.value) c.append_version0.ensures.written

pub returns-else-version-eq0-clause-written : goal.returns-else-version-eq0-clause-written
returns-else-version-eq0-clause-written c =
    on_ok_weaker c.append_version1.result (written_1 c.args.cid.now c.version.result c.codec.result c.hash.result c.digest-else-version-eq0.result.now c.args.out.now.items c.append_version1.new.out.items c.version.ensures.cid c.version.ensures.value c.if-version-eq0.false c.codec.ensures.value c.hash.ensures.value c.digest-else-version-eq0.ensures.value) c.append_version1.ensures.written
