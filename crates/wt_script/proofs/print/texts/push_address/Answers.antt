use Rattle.wt_script.proofs.print.texts.push_address.Goals as goal

pub returns-in-V6 : goal.returns-in-V6
returns-in-V6 c = rw c.in-V6.is (rw c.to_be_bytes-in-V6.ensures at c.push_address_parts-in-V6.ensures)
