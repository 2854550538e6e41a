use Rattle.std.proofs.Common.{arith, take, drop, length, ◌++◌, ◌≡◌, sym, subst, true, List, ℕ}
use Rattle.std.proofs.lemmas.Grind.{common_steps}
use Rattle.syn_io.specs.Outside.{has_distinct_names, with_file}
use Rattle.syn_io.specs.declared.mem_files.MemFile.{MemFile}
use Rattle.syn_io.specs.NamedFiles.{all_named}
use Rattle.syn_io.proofs.Replacing.{with_file_distinct}
use Rattle.syn_io.proofs.mem_files.store.Goals as goal

-- names stay distinct in a list that has one file put into it
put_distinct : (name bytes : List ℕ) (before now : List (List ℕ × List ℕ)) → now ≡ with_file name bytes before →
    has_distinct_names before ≡ true → has_distinct_names now ≡ true
put_distinct name bytes before now put distinct =
    subst (λ files. has_distinct_names files ≡ true) (sym put) (with_file_distinct name bytes before distinct)

pub returns-in_ok-push-clause-distinct : goal.returns-in_ok-push-clause-distinct
returns-in_ok-push-clause-distinct c =
    let now : List MemFile = c.push.new.self.items in
    let stored : all_named now ≡ with_file c.args.name.now c.args.bytes.now (all_named c.args.files.now.items) = grind (arith, common_steps) in
    put_distinct c.args.name.now c.args.bytes.now (all_named c.args.files.now.items) (all_named now) stored

pub returns-in_default-clause-distinct : goal.returns-in_default-clause-distinct
returns-in_default-clause-distinct c =
    let now : List MemFile = take c.args.files.now.len (c.replace.new.files ++ drop (length c.replace.new.files) c.args.files.now.items) in
    let stored : all_named now ≡ with_file c.args.name.now c.args.bytes.now (all_named c.args.files.now.items) = grind (arith, common_steps) in
    put_distinct c.args.name.now c.args.bytes.now (all_named c.args.files.now.items) (all_named now) stored
