use Rattle.gh_script.proofs.Vocabulary.{Stmt}
use Rattle.gh_script.proofs.Writing.{gc_line, get_line, int_line, line_written, load_line, move_line, new_line, nil_line, set_line, store_line}
use Rattle.gh_script.proofs.generated.put_statement.Goals as goal

pub returns-in-New : goal.returns-in-New
returns-in-New c = line_written c.put_one.result c.args.text.now.items c.put_one.new.text.items _ c.args.statement (Stmt.New c.in-New.d c.in-New.t) c.in-New.is c.put_one.ensures (new_line c.in-New.d c.in-New.t)

pub returns-in-Load : goal.returns-in-Load
returns-in-Load c = line_written c.put_three.result c.args.text.now.items c.put_three.new.text.items _ c.args.statement (Stmt.Load c.in-Load.d c.in-Load.b c.in-Load.k) c.in-Load.is c.put_three.ensures (load_line c.in-Load.d c.in-Load.b c.in-Load.k)

pub returns-in-Store : goal.returns-in-Store
returns-in-Store c = line_written c.put_three-in-Store.result c.args.text.now.items c.put_three-in-Store.new.text.items _ c.args.statement (Stmt.Store c.in-Store.b c.in-Store.k c.in-Store.v) c.in-Store.is c.put_three-in-Store.ensures (store_line c.in-Store.b c.in-Store.k c.in-Store.v)

pub returns-in-GetGlobal : goal.returns-in-GetGlobal
returns-in-GetGlobal c = line_written c.put_two.result c.args.text.now.items c.put_two.new.text.items _ c.args.statement (Stmt.GetGlobal c.in-GetGlobal.d c.in-GetGlobal.k) c.in-GetGlobal.is c.put_two.ensures (get_line c.in-GetGlobal.d c.in-GetGlobal.k)

pub returns-in-SetGlobal : goal.returns-in-SetGlobal
returns-in-SetGlobal c = line_written c.put_two-in-SetGlobal.result c.args.text.now.items c.put_two-in-SetGlobal.new.text.items _ c.args.statement (Stmt.SetGlobal c.in-SetGlobal.k c.in-SetGlobal.v) c.in-SetGlobal.is c.put_two-in-SetGlobal.ensures (set_line c.in-SetGlobal.k c.in-SetGlobal.v)

pub returns-in-Int : goal.returns-in-Int
returns-in-Int c = line_written c.put_int.result c.args.text.now.items c.put_int.new.text.items _ c.args.statement (Stmt.Int c.in-Int.d c.in-Int.n) c.in-Int.is c.put_int.ensures (int_line c.in-Int.d c.in-Int.n)

pub returns-in-Move : goal.returns-in-Move
returns-in-Move c = line_written c.put_two-in-Move.result c.args.text.now.items c.put_two-in-Move.new.text.items _ c.args.statement (Stmt.Move c.in-Move.d c.in-Move.s) c.in-Move.is c.put_two-in-Move.ensures (move_line c.in-Move.d c.in-Move.s)

pub returns-in-Nil : goal.returns-in-Nil
returns-in-Nil c = line_written c.put_one-in-Nil.result c.args.text.now.items c.put_one-in-Nil.new.text.items _ c.args.statement (Stmt.Nil c.in-Nil.d) c.in-Nil.is c.put_one-in-Nil.ensures (nil_line c.in-Nil.d)

pub returns-in-Gc : goal.returns-in-Gc
returns-in-Gc c = line_written c.put.result c.args.text.now.items c.put.new.text.items _ c.args.statement Stmt.Gc c.in-Gc.is c.put.ensures gc_line
