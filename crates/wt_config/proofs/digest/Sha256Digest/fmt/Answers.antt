use Rattle.wt_config.proofs.DigestLaws.{text_reads_back}
use Rattle.wt_config.proofs.digest.Sha256Digest.fmt.Goals as goal

pub returns-clause-reads_back : goal.returns-clause-reads_back
returns-clause-reads_back c =
    text_reads_back c.args.fmt c.self.inside.0 c.args.self.now c.write_digest.result c.self.invariant.0 c.self.invariant.1 c.self.view_is c.write_digest.ensures
