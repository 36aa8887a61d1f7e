use Rattle.class_hash.proofs.access.touch.Given as goal

abbrev pub ghosts-touches_it : goal.ghosts-touches_it
ghosts-touches_it a = record { table = a.table.now; act = a.act }
