mod Escaping
mod PutLemmas
