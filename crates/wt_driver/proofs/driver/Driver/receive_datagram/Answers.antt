use Rattle.std.proofs.Common.{rules}
use Rattle.wt_driver_laws.proofs.PieceLaws.{sessions_pieces}
use Rattle.wt_driver_laws.proofs.ReceiveDatagrams.{receive_datagram_law}
use Rattle.wt_peer_streams.specs.Living.{datagram_given}
use Rattle.wt_driver.proofs.Steps.{if-ok-both, ok-then}
use Rattle.wt_driver.proofs.driver.Driver.receive_datagram.Goals as goal

pub returns-in-Some-clause-answer : goal.returns-in-Some-clause-answer
returns-in-Some-clause-answer c = search rules

pub returns-in-Some-clause-driver : goal.returns-in-Some-clause-driver
returns-in-Some-clause-driver c = search rules

pub returns-in-Some-clause-gives : goal.returns-in-Some-clause-gives
returns-in-Some-clause-gives c = receive_datagram_law c.args.session _ c.args.self.now _ (returns-in-Some-clause-answer c) (returns-in-Some-clause-driver c)

pub returns-in-Some-clause-pieces : goal.returns-in-Some-clause-pieces
returns-in-Some-clause-pieces c = sessions_pieces (datagram_given c.args.session) c.args.self.now _ (returns-in-Some-clause-driver c)

pub returns-in-None-clause-answer : goal.returns-in-None-clause-answer
returns-in-None-clause-answer c = search rules

pub returns-in-None-clause-driver : goal.returns-in-None-clause-driver
returns-in-None-clause-driver c = search rules

pub returns-in-None-clause-gives : goal.returns-in-None-clause-gives
returns-in-None-clause-gives c = if-ok-both c.nothing_waits.result (λ a q e. receive_datagram_law c.args.session _ c.args.self.now _ q e) (returns-in-None-clause-answer c) (returns-in-None-clause-driver c)

pub returns-in-None-clause-pieces : goal.returns-in-None-clause-pieces
returns-in-None-clause-pieces c = ok-then c.nothing_waits.result (λ e. sessions_pieces (datagram_given c.args.session) c.args.self.now _ e) (returns-in-None-clause-driver c)
