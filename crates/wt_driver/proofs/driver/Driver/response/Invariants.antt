use Rattle.wt_driver.proofs.driver.Driver.response.Given as goal

abbrev pub ghosts-response_counted : goal.ghosts-response_counted
ghosts-response_counted a = record { name = a.blank.name; parts = a.blank.parts }
