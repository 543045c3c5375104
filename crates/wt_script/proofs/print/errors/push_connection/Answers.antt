use Rattle.wt_script.proofs.print.errors.push_connection.Goals as goal

pub returns-in-QuicProto : goal.returns-in-QuicProto
returns-in-QuicProto c = rw c.in-QuicProto.is c.push_proto_error.ensures
