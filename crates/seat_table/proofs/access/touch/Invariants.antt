use Rattle.seat_table.specs.Seats.{shape_of}
use Rattle.seat_table.proofs.access.touch.Given as goal

abbrev pub ghosts-touches_it : goal.ghosts-touches_it
ghosts-touches_it g a = record { shape = shape_of g.W.WaitWords.WAY a.table.now; act = a.act }
