pub mod Acceptor
pub mod AcceptorFile
pub mod AcceptorText
pub mod AskedNames
pub mod Laws
pub mod View
pub mod bodies
