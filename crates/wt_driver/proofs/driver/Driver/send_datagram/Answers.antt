use Rattle.std.proofs.Common.{rules}
use Rattle.wt_driver_laws.proofs.PieceCalls.{datagram_pieces}
use Rattle.wt_driver_laws.proofs.SendDatagramLaws.{send_datagram_law}
use Rattle.wt_driver.proofs.driver.Driver.send_datagram.Goals as goal

pub returns-in-Some-clause-sent : goal.returns-in-Some-clause-sent
returns-in-Some-clause-sent c = search rules

pub returns-in-Some-clause-does : goal.returns-in-Some-clause-does
returns-in-Some-clause-does c = send_datagram_law c.args.session c.args.payload.now _ c.args.self.now _ (returns-in-Some-clause-sent c)

pub returns-in-Some-clause-pieces : goal.returns-in-Some-clause-pieces
returns-in-Some-clause-pieces c = datagram_pieces c.args.session c.args.payload.now _ c.args.self.now _ (returns-in-Some-clause-sent c)

pub returns-clause-sent : goal.returns-clause-sent
returns-clause-sent c = search rules

pub returns-clause-does : goal.returns-clause-does
returns-clause-does c = send_datagram_law c.args.session c.args.payload.now _ c.args.self.now _ (returns-clause-sent c)

pub returns-clause-pieces : goal.returns-clause-pieces
returns-clause-pieces c = datagram_pieces c.args.session c.args.payload.now _ c.args.self.now _ (returns-clause-sent c)
