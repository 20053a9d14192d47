-- Believed. What the program says of itself.
use Rattle.std.specs.Prelude.{ℕ, List, ◌++◌, codes}

-- what `--help` prints: each command, the statuses, and where the documents are
abbrev pub help_text : List ℕ
help_text =
    codes "kaba COMMAND: runs or analyses the Java program of a file\n"
    ++ (codes "\n"
    ++ (codes "  run FILE STEPS WORD..      runs the program on the words, for at most STEPS steps\n"
    ++ (codes "  table FILE                 prints its variables and creations, and the members that each needs\n"
    ++ (codes "  lattice [-j] [-c N] FILE   prints the concept lattice of that table, as JSON with -j, of at most N concepts\n"
    ++ (codes "  base FILE                  prints the least base of implications of that table: which members always come together\n"
    ++ (codes "  why FILE ROW COLUMN        prints why the row has the column, step by step\n"
    ++ (codes "  sure FILE                  prints what is sure of every run: casts that pass, calls with one body, members never reached\n"
    ++ (codes "  same FILE FILE             tells whether the programs of two files are one, but for layout and order\n"
    ++ (codes "  edit [-c N] FILE SCRIPT    prints the class hierarchy after the edits of a script, and a line for each refused one\n"
    ++ (codes "  regen [-c N] FILE SCRIPT   prints the program that is written of that hierarchy, its classes brought into a tree\n"
    ++ (codes "  make [-p] NUMBER           does the whole job on a sample program of its own, or prints it with -p\n"
    ++ (codes "  --help                     prints this text\n"
    ++ (codes "  --version                  prints the version\n"
    ++ (codes "\n"
    ++ (codes "status: 0 done, 1 programs differ, 4 edits refused, 5 no tree, 10 fault of the run, 11 run not at its end,\n"
    ++ (codes "  64 usage, 65 text refused, 66 cannot read, 67 too large, 68 too many concepts, 69 bad script, 70 no memory,\n"
    ++ (codes "  71 no entry, 72 no words, 74 cannot write\n"
    ++ codes "documents: README.md and docs/ of the repository; docs/COMMANDS.md says each word, line and status\n")))))))))))))))))

-- what `--version` prints
abbrev pub version_text : List ℕ
version_text = codes "kaba 0.1\n"
